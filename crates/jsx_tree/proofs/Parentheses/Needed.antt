-- Where all parts are at home and begin as they may, `dress` adds no pair.
use Rattle.std.proofs.Common.{◌≡◌, List, [], ◌∷◌, true, false, cond, refl, ap, ◌∙◌}
use Rattle.std.proofs.lemmas.Bool.{and_parts, and_right, or_from, not_from_true, false≢true, not-true}
use Rattle.std.specs.Prelude.{not, ◌&&◌}
use Rattle.jsx_base.specs.Token.{Text, among}
use Rattle.jsx_tree.specs.Kinds.{Kind, expression, BareArrow, BareArrowBlock, NewWithoutArguments, Tree, leaf, node, list, Forest, none, part}
use Rattle.jsx_tree.specs.Nonterminals.{Nonterminal}
use Rattle.jsx_tree.specs.Normal.{laid_node}
use Rattle.jsx_tree.specs.Form.{Single, Maybe, Several, Position, position, positions, at_most_one, enough, last_only, admits, fits_below, fit_slots, fit_each}
use Rattle.jsx_tree.specs.Spelling.{spelled}
use Rattle.jsx_tree.specs.Layout.{first_token}
use Rattle.jsx_tree.specs.Parentheses.{asks, is_expression, parens_of, is_dotted_number, as_laid, wants, wrapped, dress, dresses, dress_each}
use Rattle.jsx_tree.specs.Fits.{is_solid, is_plain, may_begin, held, helds, held_each}

plain_laid : (k : Kind) (cs : Forest) → is_plain k ≡ true → laid_node k cs ≡ node k cs
plain_laid (expression BareArrow) cs h = absurd (false≢true h)
plain_laid (expression BareArrowBlock) cs h = absurd (false≢true h)
plain_laid (expression NewWithoutArguments) cs h = absurd (false≢true h)
plain_laid k cs h = refl

unwanted : (c : Nonterminal) (g : List Text) (t : Tree) → admits c (as_laid t) ≡ true → may_begin c g t ≡ true → wants c g t ≡ false
unwanted c g t a m =
    let p = and_parts (not (among (first_token (spelled t)) g)) (not (is_dotted_number c t)) m in
    and_right (asks c) _ (and_right (is_expression t) _ (or_from _ _ (not_from_true (admits c (as_laid t)) a) (or_from _ _ (not-true (among (first_token (spelled t)) g) p.0) (not-true (is_dotted_number c t) p.1))))

unwrapped : (c : Nonterminal) (g : List Text) (t : Tree) → wants c g t ≡ false → wrapped c g t ≡ t
unwrapped c g t w = ap (λ v. cond v (parens_of t) t) w

mutual
  pub dress_none : (c : Nonterminal) (g : List Text) (t : Tree) → admits c t ≡ true → fits_below c t ≡ true → held c g t ≡ true → dress c g t ≡ t
  dress_none c g (leaf s x) a f h = unwrapped c g (leaf s x) (unwanted c g (leaf s x) a (and_parts (may_begin c g (leaf s x)) (is_solid s) h).0)
  dress_none c g (list ts) a f h = absurd (false≢true a)
  dress_none c g (node k cs) a f h =
      let p = and_parts (may_begin c g (node k cs)) (is_plain k && helds (positions k) cs) h in
      let q = and_parts (is_plain k) (helds (positions k) cs) p.1 in
      ap (λ ds. wrapped c g (node k ds)) (slots_none (positions k) cs f q.1) ∙ unwrapped c g (node k cs) (unwanted c g (node k cs) (ap (admits c) (plain_laid k cs q.0) ∙ a) p.0)

  slots_none : (ss : List Position) (cs : Forest) → fit_slots ss cs ≡ true → helds ss cs ≡ true → dresses ss cs ≡ cs
  slots_none [] none f h = refl
  slots_none [] (part t ts) f h = refl
  slots_none (s ∷ ss) none f h = refl
  slots_none (position Single c g b a ∷ ss) (part t ts) f h =
      let x = and_parts (admits c t) (fits_below c t && fit_slots ss ts) f in
      let y = and_parts (fits_below c t) (fit_slots ss ts) x.1 in
      let w = and_parts (held c g t) (helds ss ts) h in
      ap (λ u. part u (dresses ss ts)) (dress_none c g t x.0 y.0 w.0) ∙ ap (part t) (slots_none ss ts y.1 w.1)
  slots_none (position Maybe c g b a ∷ ss) (part (list us) ts) f h =
      let x = and_parts (at_most_one us) (fit_each c us && fit_slots ss ts) f in
      let y = and_parts (fit_each c us) (fit_slots ss ts) x.1 in
      let w = and_parts (held_each c us) (helds ss ts) h in
      ap (λ u. part (list u) (dresses ss ts)) (each_none c us y.0 w.0) ∙ ap (part (list us)) (slots_none ss ts y.1 w.1)
  slots_none (position (Several s) c g b a ∷ ss) (part (list us) ts) f h =
      let x = and_parts (enough s us && last_only us) (fit_each c us && fit_slots ss ts) f in
      let y = and_parts (fit_each c us) (fit_slots ss ts) x.1 in
      let w = and_parts (held_each c us) (helds ss ts) h in
      ap (λ u. part (list u) (dresses ss ts)) (each_none c us y.0 w.0) ∙ ap (part (list us)) (slots_none ss ts y.1 w.1)
  slots_none (position Maybe c g b a ∷ ss) (part (leaf s t) ts) f h = absurd (false≢true f)
  slots_none (position Maybe c g b a ∷ ss) (part (node k cs) ts) f h = absurd (false≢true f)
  slots_none (position (Several s) c g b a ∷ ss) (part (leaf s' t) ts) f h = absurd (false≢true f)
  slots_none (position (Several s) c g b a ∷ ss) (part (node k cs) ts) f h = absurd (false≢true f)

  each_none : (c : Nonterminal) (ts : Forest) → fit_each c ts ≡ true → held_each c ts ≡ true → dress_each c ts ≡ ts
  each_none c none f h = refl
  each_none c (part t ts) f h =
      let x = and_parts (admits c t) (fits_below c t && fit_each c ts) f in
      let y = and_parts (fits_below c t) (fit_each c ts) x.1 in
      let w = and_parts (held c [] t) (held_each c ts) h in
      ap (λ u. part u (dress_each c ts)) (dress_none c [] t x.0 y.0 w.0) ∙ ap (part t) (each_none c ts y.1 w.1)
