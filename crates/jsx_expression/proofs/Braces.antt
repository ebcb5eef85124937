-- A guard against a `{`: whether that comes next.
use Rattle.std.proofs.Common.{◌≡◌, nat_eq, Bool, true, false, not, [], ◌∷◌, refl, sym, ◌∙◌, ap, subst}
use Rattle.std.specs.Prelude.{IsTrue, codes, ◌||◌}
use Rattle.std.proofs.lemmas.Bool.{eqb-true, eq-eqb}
use Rattle.jsx_base.specs.Token.{Text, Operator, Punctuator, Lexeme, among, at_front, breaks, first_is, is_token, kind_number, same, skip, token}
use Rattle.jsx_base.proofs.Fronts.{other_ahead}
use Rattle.jsx_tree.specs.Signs.{AfterExpr, Unless}
use Rattle.jsx_tree.specs.Grammar.{pun}
use Rattle.jsx_tree.specs.Reading.{Place, Lost, At, forth, go_if}
use Rattle.jsx_tree.specs.Walk.{is_found}
use Rattle.jsx_tree.proofs.Tokens.{and_right, and_both}
use Rattle.jsx_tree.proofs.Apart.{clash}

abbrev is_brace : Lexeme → Bool
is_brace x = is_token x Punctuator (codes "{")

brace_front : (f : Bool) (s : Text) → is_brace (at_front Operator f (123 ∷ s)) ≡ true
brace_front true s = refl
brace_front false s = refl

-- a token that is spelled so is one, whether it is the first of the text or not
brace_there : (f g : Bool) (s : Text) → same (at_front Operator f s).raw (codes "{") ≡ true → is_brace (at_front Operator g s) ≡ true
brace_there f g s h = by (first_is (nat_eq 123) s) refl
  where
    begins : (t : Text) → first_is (nat_eq 123) t ≡ true → is_brace (at_front Operator g t) ≡ true
    begins [] e = cc
    begins (c ∷ t) e = subst (λ d. is_brace (at_front Operator g (d ∷ t)) ≡ true) (eqb-true 123 c e) (brace_front g t)

    by : (b : Bool) → first_is (nat_eq 123) s ≡ b → is_brace (at_front Operator g s) ≡ true
    by true e = begins s e
    by false e =
        let x = at_front Operator f s in
        absurd (clash (is_token x x.kind (codes "{")) (and_both _ _ (eq-eqb (kind_number x.kind) (kind_number x.kind) refl) h) ((other_ahead x.kind 123 [] Operator s e).not_it f))

or_false : (a : Bool) → (a || false) ≡ true → a ≡ true
or_false true e = refl
or_false false e = e

pub unless_brace : (x : Place) → forth (pun "{") x ≡ Lost → IsTrue (is_found x) → forth (Unless (codes "{" ∷ [])) x ≡ x
unless_brace Lost n f = cc
unless_brace (At q e text) n f = by (among (token Operator false text).raw (codes "{" ∷ [])) refl
  where
    by : (b : Bool) → among (token Operator false text).raw (codes "{" ∷ []) ≡ b → go_if (not b) (At q e text) ≡ At q e text
    by false h = refl
    by true h =
        let there = brace_there (breaks text) (same q [] || breaks text) (skip text) (or_false _ h) in
        let gone : At (codes "{") AfterExpr (token Operator (same q []) text).rest ≡ Lost = ap (λ b. go_if b (At (codes "{") AfterExpr (token Operator (same q []) text).rest)) (sym there) ∙ n in cc

brace_lost : (b : Bool) (y : Place) → IsTrue (is_found (go_if b y)) → b ≡ true
brace_lost true y f = refl
brace_lost false y f = cc

pub brace_unless : (x : Place) → IsTrue (is_found (forth (pun "{") x)) → forth (Unless (codes "{" ∷ [])) x ≡ Lost
brace_unless Lost f = refl
brace_unless (At q e text) f =
    let m = token Operator (same q []) text in
    let i : is_brace m ≡ true = brace_lost (is_brace m) (At (codes "{") AfterExpr m.rest) f in
    let j : is_brace (token Operator false text) ≡ true = brace_there (same q [] || breaks text) (breaks text) (skip text) (and_right _ _ i) in
    let raw : same (token Operator false text).raw (codes "{") ≡ true = and_right _ _ j in (λ k. go_if (not (raw k || false)) (At q e text))
