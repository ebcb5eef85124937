-- Each part of a tree of the grammar is one that may stand where it does, once elements are replaced.
use Rattle.std.proofs.Common.{◌≡◌, List, [], ◌∷◌, Bool, true, sym, refl, ap, ◌∙◌, subst, ⊎_elim}
use Rattle.std.proofs.lemmas.Bool.{and_parts, and_from, or_cases, or_right, both_ways, false≢true, not-true}
use Rattle.std.specs.Prelude.{not, ◌&&◌, ◌||◌}
use Rattle.jsx_base.specs.Token.{Text, TokenKind, IdentifierName, NumericLiteral, BigIntLiteral, StringLiteral, RegExpLiteral, NoSubstitution, TemplateHead, TemplateMiddle, TemplateTail, JsxName, JsxString, JsxText, Elision, Punctuator}
use Rattle.jsx_tree.specs.Kinds.{Kind, program, statement, function, expression, jsx, JsxKind, Element, ElementWithChildren, Fragment, Tree, leaf, node, list, Forest, none, part}
use Rattle.jsx_tree.specs.Nonterminals.{Nonterminal, NewCallee, ForOfHead, MemberRoot, MemberPart, in_homes, homes, leaf_in, jsx_name_in, literal_homes}
use Rattle.jsx_tree.specs.Form.{Single, Maybe, Several, Position, position, positions, at_most_one, enough, is_last, last_only, admits, fits_below, fit_slots, fit_each}
use Rattle.jsx_tree.specs.Parentheses.{asks, is_expression}
use Rattle.jsx_tree.specs.Fits.{is_solid}
use Rattle.jsx_tree.specs.Sound.{lax, is_no_jsx, loose_slots, loose_each, each_node, each_nodes}
use Rattle.jsx_tree.proofs.Parentheses.Loose.{may_of}
use Rattle.jsx_tree.proofs.Parentheses.Seen.{At}
use Rattle.jsx_tree.proofs.Parentheses.Laying.{admits_in}
use Rattle.jsx_tree.proofs.Parentheses.Replaced.{is_element, Replacing, out, outs, last_out}
use Rattle.jsx_tree.proofs.Parentheses.Unwrapped.{where_asked, one_same, enough_same}
use Rattle.jsx_tree.proofs.Parentheses.UnwrapTable.{is_member_place, is_code, all_code, kind_unwrapped, if_so}

node_lax : (c : Nonterminal) (k : Kind) (cs : Forest) → admits c (node k cs) ≡ true → in_homes (lax c) (homes k) ≡ true
node_lax ForOfHead k cs h = h
node_lax NewCallee k cs h = (and_parts (in_homes NewCallee (homes k)) _ h).0
node_lax _ k cs h = h

record Code (c : Nonterminal) : Type 0 where
  pub members : not (is_member_place c) ≡ true
  pub names : not (in_homes c (literal_homes JsxName)) ≡ true
  pub strings : not (in_homes c (literal_homes JsxString)) ≡ true
  pub texts : not (in_homes c (literal_homes JsxText)) ≡ true
  pub others : not (in_homes c (literal_homes Punctuator)) ≡ true
  pub elements : (asks c || not (in_homes c (homes (jsx Element)))) ≡ true

code_of : (c : Nonterminal) → is_code c ≡ true → Code c
code_of c h =
    let p = and_parts (not (is_member_place c)) _ h in
    let q = and_parts (not (in_homes c (literal_homes JsxName))) _ p.1 in
    let r = and_parts (not (in_homes c (literal_homes JsxString))) _ q.1 in
    let s = and_parts (not (in_homes c (literal_homes JsxText))) _ r.1 in
    let o = and_parts (not (in_homes c (literal_homes Punctuator))) (asks c || not (in_homes c (homes (jsx Element)))) s.1 in
    record { members = p.0; names = q.0; strings = r.0; texts = s.0; others = o.0; elements = o.1 }

never : {A : Type 0} (b : Bool) → not b ≡ true → b ≡ true → A
never b n h = absurd (both_ways b (not-true b n) h)

no_name : {A : Type 0} (c : Nonterminal) (x : Text) → Code c → jsx_name_in c x ≡ true → A
no_name MemberRoot x p h = absurd (false≢true p.members)
no_name MemberPart x p h = absurd (false≢true p.members)
no_name c x p h = never (in_homes c (literal_homes JsxName)) p.names h

-- no leaf of JSX stands where code does
solid : (c : Nonterminal) (s : TokenKind) (x : Text) → Code c → leaf_in c s x ≡ true → is_solid s ≡ true
solid c IdentifierName x p h = refl
solid c NumericLiteral x p h = refl
solid c BigIntLiteral x p h = refl
solid c StringLiteral x p h = refl
solid c RegExpLiteral x p h = refl
solid c NoSubstitution x p h = refl
solid c TemplateHead x p h = refl
solid c TemplateMiddle x p h = refl
solid c TemplateTail x p h = refl
solid c Elision x p h = refl
solid c JsxName x p h = no_name c x p h
solid c JsxString x p h = never (in_homes c (literal_homes JsxString)) p.strings h
solid c JsxText x p h = never (in_homes c (literal_homes JsxText)) p.texts h
solid c _ x p h = never (in_homes c (literal_homes Punctuator)) p.others h

-- an element stands in code only where an expression is asked
element_asks : (c : Nonterminal) (j : JsxKind) → is_element j ≡ true → Code c → in_homes c (homes (jsx j)) ≡ true → asks c ≡ true
element_asks c Element i p h = ⊎_elim (λ a. a) (λ n. never (in_homes c (homes (jsx Element))) n h) (or_cases (asks c) _ p.elements)
element_asks c ElementWithChildren i p h = ⊎_elim (λ a. a) (λ n. never (in_homes c (homes (jsx Element))) n h) (or_cases (asks c) _ p.elements)
element_asks c Fragment i p h = ⊎_elim (λ a. a) (λ n. never (in_homes c (homes (jsx Element))) n h) (or_cases (asks c) _ p.elements)
element_asks c _ i p h = absurd (false≢true i)

plain_formed : (r : Replacing) (c : Nonterminal) (k : Kind) (cs : Forest) → is_no_jsx k ≡ true → admits c (node k cs) ≡ true → loose_slots (positions k) (outs r cs) ≡ true → At c (r.make k (outs r cs))
plain_formed r c k cs n a h = subst (At c) (sym (r.stays k (outs r cs) n)) (record { may = or_right (asks c && is_expression (node k cs)) _ (node_lax c k cs a); below = and_from _ _ n h })

code_slots : (k : Kind) → is_no_jsx k ≡ true → all_code (positions k) ≡ true
code_slots k n = if_so (is_no_jsx k) (all_code (positions k)) (kind_unwrapped k).code n

lasts_out : (r : Replacing) (ts : Forest) → last_only (outs r ts) ≡ last_only ts
lasts_out r none = refl
lasts_out r (part t none) = refl
lasts_out r (part t (part u us)) = ap (λ b. not b && last_only (outs r (part u us))) (last_out r t) ∙ ap (λ b. not (is_last t) && b) (lasts_out r (part u us))

mutual
  pub formed_out : (r : Replacing) (c : Nonterminal) (t : Tree) → is_code c ≡ true → admits c t ≡ true → fits_below c t ≡ true → each_node r.ok t ≡ true → At c (out r t)
  formed_out r c (leaf s x) i a f n = record { may = may_of c (leaf s x) a; below = and_from _ _ f (solid c s x (code_of c i) a) }
  formed_out r c (list ts) i a f n = absurd (false≢true a)
  formed_out r c (node (jsx j) cs) i a f n =
      let o = (and_parts (r.ok (jsx j) cs) (each_nodes r.ok cs) n).0 in
      where_asked c (r.make (jsx j) (outs r cs)) (element_asks c j (r.elements j cs o) (code_of c i) (admits_in c (jsx j) cs a)) (r.formed j cs o f)
  formed_out r c (node (program k) cs) i a f n = plain_formed r c (program k) cs refl a (formed_slots r (positions (program k)) cs (code_slots (program k) refl) f (and_parts (r.ok (program k) cs) (each_nodes r.ok cs) n).1)
  formed_out r c (node (statement k) cs) i a f n = plain_formed r c (statement k) cs refl a (formed_slots r (positions (statement k)) cs (code_slots (statement k) refl) f (and_parts (r.ok (statement k) cs) (each_nodes r.ok cs) n).1)
  formed_out r c (node (function k) cs) i a f n = plain_formed r c (function k) cs refl a (formed_slots r (positions (function k)) cs (code_slots (function k) refl) f (and_parts (r.ok (function k) cs) (each_nodes r.ok cs) n).1)
  formed_out r c (node (expression k) cs) i a f n = plain_formed r c (expression k) cs refl a (formed_slots r (positions (expression k)) cs (code_slots (expression k) refl) f (and_parts (r.ok (expression k) cs) (each_nodes r.ok cs) n).1)

  formed_slots : (r : Replacing) (ss : List Position) (cs : Forest) → all_code ss ≡ true → fit_slots ss cs ≡ true → each_nodes r.ok cs ≡ true → loose_slots ss (outs r cs) ≡ true
  formed_slots r [] none i f n = refl
  formed_slots r [] (part t ts) i f n = absurd (false≢true f)
  formed_slots r (s ∷ ss) none i f n = absurd (false≢true f)
  formed_slots r (position Single c g b a ∷ ss) (part t ts) i f n =
      let w = and_parts (is_code c) (all_code ss) i in
      let x = and_parts (admits c t) (fits_below c t && fit_slots ss ts) f in
      let y = and_parts (fits_below c t) (fit_slots ss ts) x.1 in
      let z = and_parts (each_node r.ok t) (each_nodes r.ok ts) n in
      let p = formed_out r c t w.0 x.0 y.0 z.0 in
      and_from _ _ p.may (and_from _ _ p.below (formed_slots r ss ts w.1 y.1 z.1))
  formed_slots r (position Maybe c g b a ∷ ss) (part (list us) ts) i f n =
      let w = and_parts (is_code c) (all_code ss) i in
      let x = and_parts (at_most_one us) (fit_each c us && fit_slots ss ts) f in
      let y = and_parts (fit_each c us) (fit_slots ss ts) x.1 in
      let z = and_parts (each_nodes r.ok us) (each_nodes r.ok ts) n in
      and_from _ _ (one_same r.make us ∙ x.0) (and_from _ _ (formed_each r c us w.0 y.0 z.0) (formed_slots r ss ts w.1 y.1 z.1))
  formed_slots r (position (Several s) c g b a ∷ ss) (part (list us) ts) i f n =
      let w = and_parts (is_code c) (all_code ss) i in
      let x = and_parts (enough s us && last_only us) (fit_each c us && fit_slots ss ts) f in
      let y = and_parts (fit_each c us) (fit_slots ss ts) x.1 in
      let z = and_parts (each_nodes r.ok us) (each_nodes r.ok ts) n in
      let e = and_parts (enough s us) (last_only us) x.0 in
      and_from _ _ (and_from _ _ (enough_same r.make s us ∙ e.0) (lasts_out r us ∙ e.1)) (and_from _ _ (formed_each r c us w.0 y.0 z.0) (formed_slots r ss ts w.1 y.1 z.1))
  formed_slots r (position Maybe c g b a ∷ ss) (part (leaf s x) ts) i f n = absurd (false≢true f)
  formed_slots r (position Maybe c g b a ∷ ss) (part (node k cs) ts) i f n = absurd (false≢true f)
  formed_slots r (position (Several s') c g b a ∷ ss) (part (leaf s x) ts) i f n = absurd (false≢true f)
  formed_slots r (position (Several s') c g b a ∷ ss) (part (node k cs) ts) i f n = absurd (false≢true f)

  formed_each : (r : Replacing) (c : Nonterminal) (ts : Forest) → is_code c ≡ true → fit_each c ts ≡ true → each_nodes r.ok ts ≡ true → loose_each c (outs r ts) ≡ true
  formed_each r c none i f n = refl
  formed_each r c (part t ts) i f n =
      let x = and_parts (admits c t) (fits_below c t && fit_each c ts) f in
      let y = and_parts (fits_below c t) (fit_each c ts) x.1 in
      let z = and_parts (each_node r.ok t) (each_nodes r.ok ts) n in
      let p = formed_out r c t i x.0 y.0 z.0 in
      and_from _ _ p.may (and_from _ _ p.below (formed_each r c ts i y.1 z.1))
