-- Where a regular expression may be read, a `/` or a `/=` stands elsewhere.
use Rattle.std.proofs.Common.{◌≡◌, ℕ, Bool, true, false, cond, [], ◌∷◌, refl, sym, subst}
use Rattle.std.specs.Prelude.{IsTrue, ◌&&◌, ◌||◌, nat_eq, codes}
use Rattle.jsx_base.specs.Token.{Text, Operand, Operator, RegExpLiteral, Lexeme, state, is_kind, kind_number, is_token, is_start, is_digit, first_is, same, begins, skip, breaks, token, at_front, punct, longer}
use Rattle.jsx_tree.specs.Signs.{Tok}
use Rattle.jsx_tree.specs.Reading.{Place, Lost, At, forth}
use Rattle.jsx_tree.proofs.Tokens.{and_left}
use Rattle.jsx_base.proofs.Families.{may_be}
use Rattle.jsx_base.proofs.Fronts.{none_ahead}
use Rattle.jsx_tree.specs.Walk.{is_found}
use Rattle.jsx_tree.proofs.OneTree.Readings.{is_slash, kind_at, text_at}
use Rattle.jsx_tree.proofs.OneTree.Facts.{never, Test, yes', no', test, eq_nat}
use Rattle.jsx_tree.proofs.OneTree.Quotes.{may_cond, may_not, if_found, turned_by}

pub record Slash (x : Place) : Type 0 where
  pub kind : kind_at x ≡ 1
  pub text : is_slash (text_at x) ≡ true

record SlashOf (l : Lexeme) : Type 0 where
  kind : kind_number l.kind ≡ 1
  text : is_slash l.raw ≡ true

slashes : Bool → Text
slashes b = longer (codes "/") (longer (cond b (codes "/=") []) [])

of_slashes : (b : Bool) (s : Text) → SlashOf (punct (slashes b) s)
unfolding slashes
of_slashes true s = record { kind = refl; text = refl }
of_slashes false s = record { kind = refl; text = refl }

slash_front : (f : Bool) (s : Text) → at_front Operator f (47 ∷ s) ≡ punct (slashes (begins (codes "=") s)) (47 ∷ s)
unfolding slashes
slash_front true s = refl
slash_front false s = refl

no_regexp : (c : ℕ) (s : Text) → nat_eq c 47 ≡ false → may_be (state Operand c s) RegExpLiteral ≡ false
no_regexp c s e =
    may_cond RegExpLiteral (is_start c) _ _ refl (may_cond RegExpLiteral (nat_eq c 48) _ _ refl (may_cond RegExpLiteral (is_digit c) _ _ refl (may_cond RegExpLiteral (nat_eq c 46 && first_is is_digit s) _ _ refl (may_cond RegExpLiteral (nat_eq c 34 || nat_eq c 39) _ _ refl
    (may_cond RegExpLiteral (nat_eq c 96) _ _ refl (may_not RegExpLiteral (nat_eq c 47) _ _ e (may_cond RegExpLiteral (nat_eq c 60) _ _ refl refl)))))))

regexp_front : (f : Bool) (s t : Text) → is_token (at_front Operand f s) RegExpLiteral t ≡ true → SlashOf (at_front Operator f s)
regexp_front f [] t h = cc
regexp_front f (c ∷ s) t h = by_case (test (nat_eq 47 c))
  where
    by_case : Test (nat_eq 47 c) → SlashOf (at_front Operator f (c ∷ s))
    by_case (no' e) = absurd (never _ (and_left (is_kind (at_front Operand f (c ∷ s)).kind RegExpLiteral) _ h) ((none_ahead RegExpLiteral Operand c s refl refl (no_regexp c s (turned_by 47 c e))).none f))
    by_case (yes' e) = subst (λ c. SlashOf (at_front Operator f (c ∷ s))) (eq_nat e) (subst SlashOf (sym (slash_front f s)) (of_slashes (begins (codes "=") s) (47 ∷ s)))

pub regexp_slash : (t : Text) (x : Place) → IsTrue (is_found (forth (Tok Operand RegExpLiteral t) x)) → Slash x
regexp_slash t Lost f = cc
regexp_slash t (At p e text) f =
    let s = regexp_front (same p [] || breaks text) (skip text) t (if_found (is_token (token Operand (same p []) text) RegExpLiteral t) _ f) in
    record { kind = s.kind; text = s.text }
