-- Where an element may be read, a `<`, `<=`, `<<` or `<<=` stands elsewhere.
use Rattle.jsx_tree.proofs.Tokens.{same_is}
use Rattle.jsx_tree.proofs.OneTree.Facts.{or_else}
use Rattle.jsx_tree.proofs.OneTree.Readings.{is_angle}
use Rattle.std.proofs.Common.{◌≡◌, Bool, true, false, cond, [], ◌∷◌, refl, sym, ap, subst}
use Rattle.std.specs.Prelude.{IsTrue, ◌||◌, nat_eq, codes}
use Rattle.jsx_base.specs.Token.{Text, Operand, Operator, Tag, Punctuator, Lexeme, kind_number, is_token, same, begins, skip, breaks, token, at_front, punct, longer, no_token, lexed, Done}
use Rattle.jsx_tree.specs.Signs.{AfterExpr, Tok}
use Rattle.jsx_tree.specs.Grammar.{tag}
use Rattle.jsx_tree.specs.Reading.{Place, Lost, At, forth, go_if}
use Rattle.jsx_tree.specs.Walk.{is_found}
use Rattle.jsx_base.proofs.Fronts.{other_ahead}
use Rattle.jsx_tree.proofs.OneTree.Readings.{kind_at, text_at}
use Rattle.jsx_tree.proofs.OneTree.Facts.{never, Test, yes', no', test, eq_nat}
use Rattle.jsx_tree.proofs.OneTree.Quotes.{if_found}

pub record Angle (x : Place) : Type 0 where
  pub kind : kind_at x ≡ 1
  pub text : is_angle (text_at x) ≡ true

record AngleOf (l : Lexeme) : Type 0 where
  kind : kind_number l.kind ≡ 1
  text : is_angle l.raw ≡ true

angles : Bool → Bool → Bool → Text
angles a b c = longer (codes "<") (longer (cond a (codes "<=") []) (longer (cond b (codes "<<") []) (longer (cond c (codes "<<=") []) [])))

of_angles : (a b c : Bool) (s : Text) → AngleOf (punct (angles a b c) s)
unfolding angles
of_angles true true true s = record { kind = refl; text = refl }
of_angles true true false s = record { kind = refl; text = refl }
of_angles true false true s = record { kind = refl; text = refl }
of_angles true false false s = record { kind = refl; text = refl }
of_angles false true true s = record { kind = refl; text = refl }
of_angles false true false s = record { kind = refl; text = refl }
of_angles false false true s = record { kind = refl; text = refl }
of_angles false false false s = record { kind = refl; text = refl }

-- no comment of HTML's kind stands there
no_comment : (f : Bool) (s : Text) → begins (codes "!--") s ≡ true → is_token (at_front Operand f (60 ∷ s)) Punctuator (codes "<") ≡ true → ⊥
no_comment true s g h = never _ h (λ i. is_token (cond (g i || false) (no_token (60 ∷ s)) (lexed Operand (Done Punctuator) 60 s)) Punctuator (codes "<"))
no_comment false s g h = never _ h (λ i. is_token (cond (g i || false) (no_token (60 ∷ s)) (lexed Operand (Done Punctuator) 60 s)) Punctuator (codes "<"))

angle_front : (f : Bool) (s : Text) → begins (codes "!--") s ≡ false → at_front Operator f (60 ∷ s) ≡ punct (angles (begins (codes "=") s) (begins (codes "<") s) (begins (codes "<=") s)) (60 ∷ s)
unfolding angles
angle_front true s g = (λ i. cond (g i || false) (no_token (60 ∷ s)) (punct (longer (codes "<") (longer (cond (begins (codes "=") s) (codes "<=") []) (longer (cond (begins (codes "<") s) (codes "<<") []) (longer (cond (begins (codes "<=") s) (codes "<<=") []) [])))) (60 ∷ s)))
angle_front false s g = (λ i. cond (g i || false) (no_token (60 ∷ s)) (punct (longer (codes "<") (longer (cond (begins (codes "=") s) (codes "<=") []) (longer (cond (begins (codes "<") s) (codes "<<") []) (longer (cond (begins (codes "<=") s) (codes "<<=") []) [])))) (60 ∷ s)))

angle_at : (f : Bool) (s : Text) → is_token (at_front Operand f s) Punctuator (codes "<") ≡ true → AngleOf (at_front Operator f s)
angle_at f [] h = cc
angle_at f (c ∷ s) h = by_case (test (nat_eq 60 c))
  where
    by_comment : is_token (at_front Operand f (60 ∷ s)) Punctuator (codes "<") ≡ true → Test (begins (codes "!--") s) → AngleOf (at_front Operator f (60 ∷ s))
    by_comment h (yes' g) = absurd (no_comment f s g h)
    by_comment h (no' g) = subst AngleOf (sym (angle_front f s g)) (of_angles (begins (codes "=") s) (begins (codes "<") s) (begins (codes "<=") s) (60 ∷ s))

    by_case : Test (nat_eq 60 c) → AngleOf (at_front Operator f (c ∷ s))
    by_case (no' e) = absurd (never _ h ((other_ahead Punctuator 60 [] Operand (c ∷ s) e).not_it f))
    by_case (yes' e) = subst (λ c. AngleOf (at_front Operator f (c ∷ s))) (eq_nat e) (by_comment (subst (λ c. is_token (at_front Operand f (c ∷ s)) Punctuator (codes "<") ≡ true) (sym (eq_nat e)) h) (test (begins (codes "!--") s)))

pub angle_here : (x : Place) → IsTrue (is_found (forth (Tok Operand Punctuator (codes "<")) x)) → Angle x
angle_here Lost f = cc
angle_here (At p e text) f =
    let s = angle_at (same p [] || breaks text) (skip text) (if_found (is_token (token Operand (same p []) text) Punctuator (codes "<")) _ f) in
    record { kind = s.kind; text = s.text }

-- what is so of these four
pub angle_case : (p : Text → Bool) → p (codes "<") ≡ true → p (codes "<=") ≡ true → p (codes "<<") ≡ true → p (codes "<<=") ≡ true → (t : Text) → is_angle t ≡ true → p t ≡ true
angle_case p a b c d t h = by_first (test (same t (codes "<")))
  where
    moved : (u : Text) → same t u ≡ true → p u ≡ true → p t ≡ true
    moved u e q = subst (λ v. p v ≡ true) (sym (same_is t u e)) q

    by_third : Test (same t (codes "<<")) → (same t (codes "<<") || same t (codes "<<=")) ≡ true → p t ≡ true
    by_third (yes' e) o = moved (codes "<<") e c
    by_third (no' n) o = moved (codes "<<=") (or_else (same t (codes "<<")) (same t (codes "<<=")) o n) d

    by_second : Test (same t (codes "<=")) → (same t (codes "<=") || (same t (codes "<<") || same t (codes "<<="))) ≡ true → p t ≡ true
    by_second (yes' e) o = moved (codes "<=") e b
    by_second (no' n) o = by_third (test (same t (codes "<<"))) (or_else (same t (codes "<=")) (same t (codes "<<") || same t (codes "<<=")) o n)

    by_first : Test (same t (codes "<")) → p t ≡ true
    by_first (yes' e) = moved (codes "<") e a
    by_first (no' n) = by_second (test (same t (codes "<="))) (or_else (same t (codes "<")) (same t (codes "<=") || (same t (codes "<<") || same t (codes "<<="))) h n)

-- ---- the bracket of a tag, in the mode of tags

tag_front : (f : Bool) (s : Text) → is_token (at_front Tag f (60 ∷ s)) Punctuator (codes "<") ≡ true
tag_front f [] = refl
tag_front f (c ∷ s) = refl

tag_here : (f : Bool) (s : Text) → is_token (at_front Operand f s) Punctuator (codes "<") ≡ true → is_token (at_front Tag f s) Punctuator (codes "<") ≡ true
tag_here f [] h = cc
tag_here f (c ∷ s) h = by_case (test (nat_eq 60 c))
  where
    by_case : Test (nat_eq 60 c) → is_token (at_front Tag f (c ∷ s)) Punctuator (codes "<") ≡ true
    by_case (no' e) = absurd (never _ h ((other_ahead Punctuator 60 [] Operand (c ∷ s) e).not_it f))
    by_case (yes' e) = subst (λ c. is_token (at_front Tag f (c ∷ s)) Punctuator (codes "<") ≡ true) (eq_nat e) (tag_front f s)

pub angle_in_tag : (x : Place) → IsTrue (is_found (forth (Tok Operand Punctuator (codes "<")) x)) → IsTrue (is_found (forth (tag "<") x))
angle_in_tag Lost f = cc
angle_in_tag (At q e text) f =
    let s = tag_here (same q [] || breaks text) (skip text) (if_found (is_token (token Operand (same q []) text) Punctuator (codes "<")) _ f) in
    ap (λ b. is_found (go_if b (At (codes "<") AfterExpr (token Tag (same q []) text).rest))) s
