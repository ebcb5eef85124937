-- The third of the passes: pairs round each `in` that stands open in the head of a `for`.
use Rattle.std.proofs.Common.{◌≡◌, ℕ, List, [], ◌∷◌, Bool, true, false, cond, refl, ap, ◌∙◌, ⊎_elim}
use Rattle.std.proofs.lemmas.Bool.{and_parts, and_from, or_cases, or_left, or_right, false≢true, leb-true, le-leb}
use Rattle.std.proofs.Math.Nat.{le_trans}
use Rattle.std.specs.Prelude.{not, ◌&&◌, ◌||◌, nat_le, nat_eq}
use Rattle.jsx_tree.specs.Kinds.{Kind, expression, InOp, Binary, Tree, leaf, node, list, Forest, none, part}
use Rattle.jsx_tree.specs.Nonterminals.{Nonterminal, Expr, MemberObject, Argument, ArrayItem, ForInit, NullishLeft, NewCallee, DotObject, ForOfHead, in_list, takes, number, floor}
use Rattle.jsx_tree.specs.Grammar.{ListShape, TwoOrMore}
use Rattle.jsx_tree.specs.Normal.{laid_node}
use Rattle.jsx_tree.specs.Form.{Single, Maybe, Several, Position, position, positions, enough, at_most_one, is_last, last_only, admits, spine_calls, first_calls}
use Rattle.jsx_tree.specs.Parentheses.{parens_of, as_laid, is_expression, is_in, is_init, shield, shields, shield_each}
use Rattle.jsx_tree.specs.Sound.{is_no_jsx}
use Rattle.jsx_tree.proofs.Parentheses.FirstPass.{home, fine, fine_slots, fine_each, parens_fine}
use Rattle.jsx_tree.proofs.Parentheses.SecondPass.{alike, alike_self, spine_less, laid_kept}

-- what a place takes of level 10 it takes of level 18 and in parentheses
more_level : (n : ℕ) → nat_le n 10 ≡ true → nat_le n 18 ≡ true
more_level n h = le-leb n 18 (le_trans (leb-true n 10 h) (leb-true 10 18 refl))

more_in : (c : Nonterminal) (ds : List Nonterminal) → in_list c (Expr 10 ∷ ds) ≡ true → in_list c (Expr 18 ∷ MemberObject ∷ ds) ≡ true
more_in c ds h =
    ⊎_elim (λ p. or_left (takes c (Expr 18)) _ (let q = and_parts (nat_eq (number c) 0) (nat_le (floor c) 10) p in and_from (nat_eq (number c) 0) (nat_le (floor c) 18) q.0 (more_level (floor c) q.1)))
    (λ p. or_right (takes c (Expr 18)) _ (or_right (takes c MemberObject) _ p)) (or_cases (takes c (Expr 10)) (in_list c ds) h)

in_parens : (c : Nonterminal) (ds : Forest) (x : Tree) → admits c (node (expression (Binary InOp)) ds) ≡ true → admits c (parens_of x) ≡ true
in_parens NullishLeft ds x h = refl
in_parens NewCallee ds x h = refl
in_parens DotObject ds x h = refl
in_parens ForOfHead ds x h = absurd (false≢true h)
in_parens c ds x h = more_in c (Argument ∷ ArrayItem ∷ ForInit ∷ []) h

in_home : (c : Nonterminal) (k : Kind) (ds : Forest) (x : Tree) → is_in (node k ds) ≡ true → admits c (laid_node k ds) ≡ true → admits c (parens_of x) ≡ true
in_home c (expression (Binary InOp)) ds x i h = in_parens c ds x h
in_home c _ ds x i h = absurd (false≢true i)

in_expression : (k : Kind) (ds : Forest) → is_in (node k ds) ≡ true → is_expression (node k ds) ≡ true
in_expression (expression (Binary InOp)) ds i = refl
in_expression _ ds i = absurd (false≢true i)

in_last : (k : Kind) (ds : Forest) (x : Tree) → is_in (node k ds) ≡ true → is_last (parens_of x) ≡ is_last (node k ds)
in_last (expression (Binary InOp)) ds x i = refl
in_last _ ds x i = absurd (false≢true i)

-- ---- one pair, or none

wrap_home : (c : Nonterminal) (k : Kind) (ds : Forest) (v : Bool) → (v ≡ true → is_in (node k ds) ≡ true) → admits c (laid_node k ds) ≡ true → admits c (as_laid (cond v (parens_of (node k ds)) (node k ds))) ≡ true
wrap_home c k ds true f h = in_home c k ds (node k ds) (f refl) h
wrap_home c k ds false f h = h

wrap_fine : (c : Nonterminal) (k : Kind) (ds : Forest) (v : Bool) → (v ≡ true → is_in (node k ds) ≡ true) → fine false c (node k ds) ≡ true → fine false c (cond v (parens_of (node k ds)) (node k ds)) ≡ true
wrap_fine c k ds true f h = parens_fine false c (node k ds) (in_expression k ds (f refl)) h
wrap_fine c k ds false f h = h

wrap_last : (k : Kind) (ds : Forest) (v : Bool) → (v ≡ true → is_in (node k ds) ≡ true) → is_last (cond v (parens_of (node k ds)) (node k ds)) ≡ is_last (node k ds)
wrap_last k ds true f = in_last k ds (node k ds) (f refl)
wrap_last k ds false f = refl

wrap_spine : (k : Kind) (ds : Forest) (v : Bool) → spine_calls (cond v (parens_of (node k ds)) (node k ds)) ≡ true → spine_calls (node k ds) ≡ true
wrap_spine k ds true h = absurd (false≢true h)
wrap_spine k ds false h = h

-- what a node's parts are shielded with
abbrev under : Bool → Kind → Forest → Forest
under shut k cs = shields (shut && not (is_in (node k cs))) (positions k) cs

pub shut_in : (shut : Bool) (u : Tree) → (shut && is_in u) ≡ true → is_in u ≡ true
shut_in shut u h = (and_parts shut (is_in u) h).1

-- ---- homes are kept

shields_alike : (shut : Bool) (ss : List Position) (cs : Forest) → alike cs (shields shut ss cs) ≡ true
shields_alike shut [] none = refl
shields_alike shut (s ∷ ss) none = refl
shields_alike shut [] (part t ts) = alike_self ts
shields_alike shut (position f c g b a ∷ ss) (part t ts) = shields_alike shut ss ts

mutual
  spine_kept : (shut : Bool) (t : Tree) → spine_calls (shield shut t) ≡ true → spine_calls t ≡ true
  spine_kept shut (leaf s x) h = h
  spine_kept shut (list ts) h = h
  spine_kept shut (node k cs) h =
      spine_less k cs (under shut k cs) (λ l p. first_kept (shut && not (is_in (node k cs))) (positions k) cs p) (wrap_spine k (under shut k cs) (shut && is_in (node k (under shut k cs))) h)

  first_kept : (shut : Bool) (ss : List Position) (cs : Forest) → first_calls (shields shut ss cs) ≡ true → first_calls cs ≡ true
  first_kept shut [] none h = h
  first_kept shut (s ∷ ss) none h = h
  first_kept shut [] (part t ts) h = h
  first_kept shut (position f c g b a ∷ ss) (part t ts) h = spine_kept (is_init c || (shut && not b)) t h

shield_home : (shut : Bool) (c : Nonterminal) (t : Tree) → admits c (as_laid t) ≡ true → admits c (as_laid (shield shut t)) ≡ true
shield_home shut c (leaf s x) h = h
shield_home shut c (list ts) h = h
shield_home shut c (node k cs) h =
    let ds : Forest = under shut k cs in
    wrap_home c k ds (shut && is_in (node k ds)) (shut_in shut (node k ds))
    (laid_kept c k cs ds (shields_alike (shut && not (is_in (node k cs))) (positions k) cs) (λ l p. first_kept (shut && not (is_in (node k cs))) (positions k) cs p) h)

shield_last : (shut : Bool) (t : Tree) → is_last (shield shut t) ≡ is_last t
shield_last shut (leaf s x) = refl
shield_last shut (list ts) = refl
shield_last shut (node k cs) = wrap_last k (under shut k cs) (shut && is_in (node k (under shut k cs))) (shut_in shut (node k (under shut k cs)))

each_one : (shut : Bool) (ts : Forest) → at_most_one (shield_each shut ts) ≡ at_most_one ts
each_one shut none = refl
each_one shut (part t none) = refl
each_one shut (part t (part u us)) = refl

each_enough : (shut : Bool) (s : ListShape) (ts : Forest) → enough s (shield_each shut ts) ≡ enough s ts
each_enough shut TwoOrMore none = refl
each_enough shut TwoOrMore (part t none) = refl
each_enough shut TwoOrMore (part t (part u us)) = refl
each_enough shut _ none = refl
each_enough shut _ (part t ts) = refl

each_last : (shut : Bool) (ts : Forest) → last_only (shield_each shut ts) ≡ last_only ts
each_last shut none = refl
each_last shut (part t none) = refl
each_last shut (part t (part u us)) =
    ap (λ b. not b && last_only (shield_each shut (part u us))) (shield_last shut t) ∙ ap (λ b. not (is_last t) && b) (each_last shut (part u us))

mutual
  pub shield_fine : (shut : Bool) (c : Nonterminal) (t : Tree) → fine false c t ≡ true → fine false c (shield shut t) ≡ true
  shield_fine shut c (leaf s x) h = h
  shield_fine shut c (list ts) h = each_shield shut c ts h
  shield_fine shut c (node k cs) h =
      let q = and_parts (is_no_jsx k) (fine_slots false (positions k) cs) h in
      let ds : Forest = under shut k cs in
      wrap_fine c k ds (shut && is_in (node k ds)) (shut_in shut (node k ds)) (and_from (is_no_jsx k) _ q.0 (slots_shield (shut && not (is_in (node k cs))) (positions k) cs q.1))

  slots_shield : (shut : Bool) (ss : List Position) (cs : Forest) → fine_slots false ss cs ≡ true → fine_slots false ss (shields shut ss cs) ≡ true
  slots_shield shut [] none h = refl
  slots_shield shut [] (part t ts) h = absurd (false≢true h)
  slots_shield shut (s ∷ ss) none h = absurd (false≢true h)
  slots_shield shut (position Single c g b a ∷ ss) (part t ts) h =
      let x = and_parts (home false c t) (fine false c t && fine_slots false ss ts) h in
      let y = and_parts (fine false c t) (fine_slots false ss ts) x.1 in
      and_from _ _ (shield_home (is_init c || (shut && not b)) c t x.0) (and_from _ _ (shield_fine (is_init c || (shut && not b)) c t y.0) (slots_shield shut ss ts y.1))
  slots_shield shut (position Maybe c g b a ∷ ss) (part (list us) ts) h =
      let x = and_parts (at_most_one us) (fine_each false c us && fine_slots false ss ts) h in
      let y = and_parts (fine_each false c us) (fine_slots false ss ts) x.1 in
      let d : Bool = is_init c || (shut && not b) in
      and_from _ _ (each_one d us ∙ x.0) (and_from _ _ (each_shield d c us y.0) (slots_shield shut ss ts y.1))
  slots_shield shut (position (Several s) c g b a ∷ ss) (part (list us) ts) h =
      let x = and_parts (enough s us && last_only us) (fine_each false c us && fine_slots false ss ts) h in
      let w = and_parts (enough s us) (last_only us) x.0 in
      let y = and_parts (fine_each false c us) (fine_slots false ss ts) x.1 in
      let d : Bool = is_init c || (shut && not b) in
      and_from _ _ (and_from _ _ (each_enough d s us ∙ w.0) (each_last d us ∙ w.1)) (and_from _ _ (each_shield d c us y.0) (slots_shield shut ss ts y.1))
  slots_shield shut (position Maybe c g b a ∷ ss) (part (leaf s t) ts) h = absurd (false≢true h)
  slots_shield shut (position Maybe c g b a ∷ ss) (part (node k cs) ts) h = absurd (false≢true h)
  slots_shield shut (position (Several s) c g b a ∷ ss) (part (leaf s' t) ts) h = absurd (false≢true h)
  slots_shield shut (position (Several s) c g b a ∷ ss) (part (node k cs) ts) h = absurd (false≢true h)

  each_shield : (shut : Bool) (c : Nonterminal) (ts : Forest) → fine_each false c ts ≡ true → fine_each false c (shield_each shut ts) ≡ true
  each_shield shut c none h = refl
  each_shield shut c (part t ts) h =
      let x = and_parts (home false c t) (fine false c t && fine_each false c ts) h in
      let y = and_parts (fine false c t) (fine_each false c ts) x.1 in
      and_from _ _ (shield_home shut c t x.0) (and_from _ _ (shield_fine shut c t y.0) (each_shield shut c ts y.1))

pub shield_at : (shut : Bool) (c : Nonterminal) (t : Tree) → home false c t ≡ true → fine false c t ≡ true → (home false c (shield shut t) ≡ true) × (fine false c (shield shut t) ≡ true)
shield_at shut c t m h = (shield_home shut c t m, shield_fine shut c t h)
