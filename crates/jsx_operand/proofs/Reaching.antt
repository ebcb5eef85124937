-- A cover is as deep as the pattern that it turns into, and a pattern that assigns as the one that binds: they have the same tokens.
use Rattle.std.proofs.Common.{◌≡◌, ℕ, suc, max, Bool, true, false, refl, ◌∙◌, ap, sym}
use Rattle.jsx_tree.specs.Kinds.{Parenthesized, Member, Index, SuperMember, SuperIndex, expression, Tree, leaf, node, list, Forest, none, part}
use Rattle.jsx_tree.specs.Depth.{frame, depth_of}
use Rattle.jsx_tree.specs.Reach.{reach, reach_all}
use Rattle.jsx_tree.specs.Grows.{as_target}
use Rattle.jsx_tree.specs.Faults.{part_depth}
use Rattle.jsx_tree.specs.Form.{fits_below}
use Rattle.jsx_tree.specs.Nonterminals.{Nonterminal}
use Rattle.jsx_tree.proofs.Depth.Reach.{reach_told}
use Rattle.jsx_operand.specs.Climbing.{is_target}
use Rattle.jsx_operand.specs.Turning.{Turns, turn_target, turn_array, turn_object, TurnsElement, turn_plain, turn_filled, TurnsSlots, slots_none, slot_hole, slot, slot_rest, TurnsParts, parts_none, part_pair, part_short, part_preset, part_rest, Suits, suits_name, suits_hole, suits_array, suits_object, suits_filled, suits_rest, suits_pair, suits_short, suits_preset, suits_others, SuitsAll, suits_none, suits_more, shown, shown_each}

-- round one part, of a node that counts or doesn't
abbrev round : Bool → ℕ → ℕ
round b d = depth_of (frame b (max 0 (max d 0)))

abbrev before : Bool → ℕ → ℕ → ℕ
before b c d = depth_of (frame b (max 0 (max d (max c 0))))

abbrev behind : Bool → ℕ → ℕ → ℕ
behind b c d = depth_of (frame b (max 0 (max c (max d 0))))

mutual
  pub suits_reach : {p q : Tree} → Suits p q → reach p ≡ reach q
  suits_reach suits_name = refl
  suits_reach suits_hole = refl
  suits_reach (suits_array s) = ap (round true) (suits_reaches s)
  suits_reach (suits_object s) = ap (round true) (suits_reaches s)
  suits_reach (suits_filled {e = e} s) = ap (before true (reach e)) (suits_reach s)
  suits_reach (suits_rest s) = ap (round false) (suits_reach s)
  suits_reach (suits_pair {k = k} s) = ap (behind true (reach k)) (suits_reach s)
  suits_reach suits_short = refl
  suits_reach suits_preset = refl
  suits_reach suits_others = refl

  pub suits_reaches : {ts us : Forest} → SuitsAll ts us → reach_all ts ≡ reach_all us
  suits_reaches suits_none = refl
  suits_reaches (suits_more s all) = λ i. max (suits_reach s i) (suits_reaches all i)

-- ---- a target

target_shown : (t : Tree) → is_target t ≡ true → shown t ≡ t
target_shown (leaf k t) e = refl
target_shown (node (expression Member) ts) e = refl
target_shown (node (expression Index) ts) e = refl
target_shown (node (expression SuperMember) ts) e = refl
target_shown (node (expression SuperIndex) ts) e = refl
target_shown (node (expression Parenthesized) ts) e = refl
target_shown (node _ ts) e = cc
target_shown (list ts) e = cc

target_reach : (t : Tree) → is_target t ≡ true → reach t ≡ reach (as_target t)
target_reach (leaf k t) e = refl
target_reach (node (expression Member) ts) e = refl
target_reach (node (expression Index) ts) e = refl
target_reach (node (expression SuperMember) ts) e = refl
target_reach (node (expression SuperIndex) ts) e = refl
target_reach (node (expression Parenthesized) none) e = cc
target_reach (node (expression Parenthesized) (part t none)) e = ap (round true) (target_reach t e)
target_reach (node (expression Parenthesized) (part t (part u us))) e = cc
target_reach (node _ ts) e = cc
target_reach (list ts) e = cc

-- ---- a cover

mutual
  pub turns_reach : {t u : Tree} → Turns t u → reach (shown t) ≡ reach u
  turns_reach (turn_target {t = t} e) = ap reach (target_shown t e) ∙ target_reach t e
  turns_reach (turn_array s) = ap (round true) (slots_reach s)
  turns_reach (turn_object s) = ap (round true) (parts_reach s)

  pub element_reach : {t u : Tree} → TurnsElement t u → reach (shown t) ≡ reach u
  element_reach (turn_plain s) = turns_reach s
  element_reach turn_filled = refl

  pub slots_reach : {ts us : Forest} → TurnsSlots ts us → reach_all (shown_each ts) ≡ reach_all us
  slots_reach slots_none = refl
  slots_reach (slot_hole s) = ap (max 0) (slots_reach s)
  slots_reach (slot e s) = λ i. max (element_reach e i) (slots_reach s i)
  slots_reach (slot_rest t s) = λ i. max (round false (turns_reach t i)) (slots_reach s i)

  pub parts_reach : {ts us : Forest} → TurnsParts ts us → reach_all (shown_each ts) ≡ reach_all us
  parts_reach parts_none = refl
  parts_reach (part_pair {k = k} e s) = λ i. max (behind true (reach k) (element_reach e i)) (parts_reach s i)
  parts_reach (part_short {n = n} b s) = ap (max (round true 1)) (parts_reach s)
  parts_reach (part_preset {e = e} s) = ap (max (depth_of (frame true (max 0 (suc (max 1 (max (reach e) 0))))))) (parts_reach s)
  parts_reach (part_rest b s) = ap (max (round false 1)) (parts_reach s)

-- of trees that have their form
pub suits_depth : (c d : Nonterminal) {p q : Tree} → Suits p q → fits_below c p ≡ true → fits_below d q ≡ true → part_depth p ≡ part_depth q
suits_depth c d {p} {q} s e f = reach_told c p e ∙ (suits_reach s ∙ sym (reach_told d q f))

pub turned_depth : (c d : Nonterminal) {t u : Tree} → Turns t u → fits_below c (shown t) ≡ true → fits_below d u ≡ true → part_depth (shown t) ≡ part_depth u
turned_depth c d {t} {u} s e f = reach_told c (shown t) e ∙ (turns_reach s ∙ sym (reach_told d u f))
