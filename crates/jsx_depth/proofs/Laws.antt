-- What is within so many levels is no deeper than they are.
use Rattle.std.proofs.Common.{◌≡◌, ◌≤◌, ℕ, zero, suc, max, Bool, true, false, cond, List, [], ◌∷◌, refl, sym, ◌∙◌, ap, arith}
use Rattle.std.specs.Prelude.{nat_le, ◌&&◌}
use Rattle.std.proofs.lemmas.Bool.{leb-true, leb-false, le-leb, lt-leb}
use Rattle.jsx_tree.specs.Kinds.{Tree, leaf, node, list, Forest, none, part}
use Rattle.jsx_tree.specs.Nonterminals.{Nonterminal}
use Rattle.jsx_tree.specs.Grammar.{production}
use Rattle.jsx_tree.specs.Form.{Position, position, positions, shaped, admits, fits_below, fit_slots, fit_each}
use Rattle.jsx_tree.specs.Depth.{frame, depth_of}
use Rattle.jsx_tree.specs.Faults.{part_depth}
use Rattle.jsx_tree.specs.Reach.{weighs, counts, counts_twice, once_more, ones, reach, reach_all}
use Rattle.jsx_tree.proofs.Tokens.{and_left, and_right}
use Rattle.jsx_tree.proofs.Depth.Reach.{reach_told, words_within}
use Rattle.jsx_depth.specs.Fits.{level_in, is_left, at_level, at_second, fits, fits_each}
use Rattle.jsx_depth.proofs.Each.{each_part}

left_le : (n : ℕ) → is_left n ≡ nat_le 1 n
left_le zero = refl
left_le (suc n) = sym (le-leb 1 (suc n) (omega arith))

none_le : (n : ℕ) → true ≡ nat_le 0 n
none_le n = sym (le-leb 0 n (omega arith))

both_le : (a b n : ℕ) → (nat_le a n && nat_le b n) ≡ nat_le (max a b) n
both_le a b n = go (nat_le a n) (nat_le b n) refl refl
  where
    go : (p q : Bool) → nat_le a n ≡ p → nat_le b n ≡ q → (p && q) ≡ nat_le (max a b) n
    go true true e f = sym (le-leb (max a b) n (omega (arith, leb-true a n e, leb-true b n f)))
    go true false e f = sym (lt-leb (max a b) n (omega (arith, leb-false b n f)))
    go false q e f = sym (lt-leb (max a b) n (omega (arith, leb-false a n e)))

-- round a node that counts, or counts twice
round_le : (b : Bool) (n d : ℕ) (f : ℕ → Bool) → ((m : ℕ) → f m ≡ nat_le d m) → at_level (level_in b n) f ≡ nat_le (depth_of (frame b d)) n
round_le false n d f h = h n
round_le true zero d f h = sym (lt-leb (suc d) 0 (omega arith))
round_le true (suc n) d f h = h n ∙ go (nat_le d n) refl
  where
    go : (p : Bool) → nat_le d n ≡ p → p ≡ nat_le (suc d) (suc n)
    go true e = sym (le-leb (suc d) (suc n) (omega (arith, leb-true d n e)))
    go false e = sym (lt-leb (suc d) (suc n) (omega (arith, leb-false d n e)))

second_le : (b : Bool) (n d : ℕ) (f : ℕ → Bool) → ((m : ℕ) → f m ≡ nat_le d m) → at_second b n f ≡ nat_le (once_more b d) n
second_le false n d f h = h n
second_le true n d f h = round_le true n d f h

leaf_le : (b : Bool) (n : ℕ) → cond b (is_left n) true ≡ nat_le (cond b 1 0) n
leaf_le true n = left_le n
leaf_le false n = none_le n

mutual
  pub fits_le : (c : Nonterminal) (n : ℕ) (t : Tree) → fits_below c t ≡ true → fits n t ≡ nat_le (reach t) n
  fits_le c n (leaf k s) e = leaf_le (weighs k) n
  fits_le c n (node k ts) e =
      let more : once_more (counts_twice k) (reach_all ts) ≡ max (ones (production k)) (once_more (counts_twice k) (reach_all ts)) = up (counts_twice k) (ones (production k)) (reach_all ts) (words_within c k ts e) in
      round_le (counts k ts) n (once_more (counts_twice k) (reach_all ts)) (λ m. at_second (counts_twice k) m (λ i. fits_each i ts)) (λ m. second_le (counts_twice k) m (reach_all ts) (λ i. fits_each i ts) (λ i. slots_le (positions k) i ts e))
      ∙ ap (λ d. nat_le (depth_of (frame (counts k ts) d)) n) more
    where
      up : (b : Bool) (o d : ℕ) → o ≤ d → once_more b d ≡ max o (once_more b d)
      up true o d h = omega (arith, h)
      up false o d h = omega (arith, h)
  fits_le c n (list ts) e = each_le c n ts e

  slots_le : (ss : List Position) (n : ℕ) (ts : Forest) → fit_slots ss ts ≡ true → fits_each n ts ≡ nat_le (reach_all ts) n
  slots_le [] n none e = none_le n
  slots_le [] n (part t ts) e = cc
  slots_le (position f c g b a ∷ ss) n none e = cc
  slots_le (position f c g b a ∷ ss) n (part t ts) e =
      let below = and_right (shaped f c t) (fits_below c t && fit_slots ss ts) e in
      each_part n t ts ∙ ((λ i. fits_le c n t (and_left (fits_below c t) (fit_slots ss ts) below) i && slots_le ss n ts (and_right (fits_below c t) (fit_slots ss ts) below) i) ∙ both_le (reach t) (reach_all ts) n)

  each_le : (c : Nonterminal) (n : ℕ) (ts : Forest) → fit_each c ts ≡ true → fits_each n ts ≡ nat_le (reach_all ts) n
  each_le c n none e = none_le n
  each_le c n (part t ts) e =
      let below = and_right (admits c t) (fits_below c t && fit_each c ts) e in
      each_part n t ts ∙ ((λ i. fits_le c n t (and_left (fits_below c t) (fit_each c ts) below) i && each_le c n ts (and_right (fits_below c t) (fit_each c ts) below) i) ∙ both_le (reach t) (reach_all ts) n)

-- of what has its form
pub fits_depth : (c : Nonterminal) (n : ℕ) (t : Tree) → fits_below c t ≡ true → fits n t ≡ nat_le (part_depth t) n
fits_depth c n t e = fits_le c n t e ∙ ap (λ d. nat_le d n) (sym (reach_told c t e))
