-- Where a regular expression may be read, a `/` or a `/=` stands as an operator.
use Rattle.std.proofs.Common.{◌≡◌, ℕ, nat_eq, Bool, true, false, cond, [], ◌∷◌, refl, sym, subst}
use Rattle.std.specs.Prelude.{IsTrue, codes, ◌&&◌, ◌||◌}
use Rattle.std.proofs.lemmas.Bool.{eqb-true}
use Rattle.jsx_base.specs.Token.{Text, Operand, Operator, Punctuator, RegExpLiteral, Lexeme, State, state, is_kind, kind_number, is_token, is_start, is_digit, first_is, same, begins, skip, breaks, token, at_front, punct, longer}
use Rattle.jsx_base.proofs.Families.{may_be, either}
use Rattle.jsx_base.proofs.Fronts.{none_ahead}
use Rattle.jsx_tree.specs.Signs.{Ending, AfterExpr, Tok}
use Rattle.jsx_tree.specs.Reading.{At, forth}
use Rattle.jsx_tree.specs.Walk.{is_found}
use Rattle.jsx_tree.proofs.Tokens.{and_left}
use Rattle.jsx_tree.proofs.Apart.{clash, found_token}

abbrev pub is_slash : Text → Bool
is_slash t = same t (codes "/") || same t (codes "/=")

pub record Slash (l : Lexeme) : Type 0 where
  pub kind : kind_number l.kind ≡ kind_number Punctuator
  pub text : is_slash l.raw ≡ true

slashes : Bool → Text
slashes b = longer (codes "/") (longer (cond b (codes "/=") []) [])

of_slashes : (b : Bool) (s : Text) → Slash (punct (slashes b) s)
unfolding slashes
of_slashes true s = record { kind = refl; text = refl }
of_slashes false s = record { kind = refl; text = refl }

slash_front : (f : Bool) (s : Text) → at_front Operator f (47 ∷ s) ≡ punct (slashes (begins (codes "=") s)) (47 ∷ s)
unfolding slashes
slash_front true s = refl
slash_front false s = refl

no_slash : (b : Bool) (x y : State) → b ≡ false → may_be y RegExpLiteral ≡ false → may_be (cond b x y) RegExpLiteral ≡ false
no_slash true x y e q = cc
no_slash false x y e q = q

no_regexp : (c : ℕ) (s : Text) → nat_eq c 47 ≡ false → may_be (state Operand c s) RegExpLiteral ≡ false
no_regexp c s e =
    either RegExpLiteral (is_start c) _ _ refl (either RegExpLiteral (nat_eq c 48) _ _ refl (either RegExpLiteral (is_digit c) _ _ refl (either RegExpLiteral (nat_eq c 46 && first_is is_digit s) _ _ refl (either RegExpLiteral (nat_eq c 34 || nat_eq c 39) _ _ refl
    (either RegExpLiteral (nat_eq c 96) _ _ refl (no_slash (nat_eq c 47) _ _ e (either RegExpLiteral (nat_eq c 60) _ _ refl refl)))))))

regexp_front : (f : Bool) (s t : Text) → is_token (at_front Operand f s) RegExpLiteral t ≡ true → Slash (at_front Operator f s)
regexp_front f [] t h = cc
regexp_front f (c ∷ s) t h = by_case (nat_eq c 47) refl
  where
    by_case : (b : Bool) → nat_eq c 47 ≡ b → Slash (at_front Operator f (c ∷ s))
    by_case false e = absurd (clash (is_kind (at_front Operand f (c ∷ s)).kind RegExpLiteral) (and_left _ _ h) ((none_ahead RegExpLiteral Operand c s refl refl (no_regexp c s e)).none f))
    by_case true e = subst (λ d. Slash (at_front Operator f (d ∷ s))) (sym (eqb-true c 47 e)) (subst Slash (sym (slash_front f s)) (of_slashes (begins (codes "=") s) (47 ∷ s)))

pub regexp_slash : (t q : Text) (e : Ending) (text : Text) → IsTrue (is_found (forth (Tok Operand RegExpLiteral t) (At q e text))) → Slash (token Operator (same q []) text)
regexp_slash t q e text f =
    let s = regexp_front (same q [] || breaks text) (skip text) t (found_token (is_token (token Operand (same q []) text) RegExpLiteral t) (At t AfterExpr (token Operand (same q []) text).rest) f) in
    record { kind = s.kind; text = s.text }
