-- Which tokens don't stand at one place, and what the first token of a text is behind another.
use Rattle.std.proofs.Common.{◌≡◌, ℕ, nat_eq, Bool, true, false, cond, [], ◌∷◌, refl, sym, ◌∙◌, subst}
use Rattle.std.specs.Prelude.{◌&&◌, ◌||◌, IsTrue, codes}
use Rattle.std.proofs.lemmas.Bool.{eqb-true, eq-eqb}
use Rattle.jsx_base.specs.Token.{Text, Operand, Operator, TokenKind, Punctuator, Lexeme, kind_number, is_token, breaks, skip, first_is, at_front, token, same}
use Rattle.jsx_tree.specs.Signs.{AfterExpr, Tok}
use Rattle.jsx_tree.specs.Reading.{Place, Lost, At, forth}
use Rattle.jsx_tree.specs.Walk.{is_found}
use Rattle.jsx_tree.proofs.Tokens.{and_left, and_right, and_both, same_is, same_self}
use Rattle.jsx_base.proofs.Fronts.{other_ahead}

pub by_not : (b : Bool) → (b ≡ true → ⊥) → b ≡ false
by_not true f = absurd (f refl)
by_not false f = refl

pub clash : (b : Bool) → b ≡ true → b ≡ false → ⊥
clash true e f = cc
clash false e f = cc

-- ---- two tokens of code at one place

abbrev is_same : TokenKind → Text → TokenKind → Text → Bool
is_same k t l u = nat_eq (kind_number k) (kind_number l) && same t u

same_lexeme : (x : Lexeme) (k l : TokenKind) (t u : Text) → is_token x k t ≡ true → is_token x l u ≡ true → is_same k t l u ≡ true
same_lexeme x k l t u a b =
    let kinds : kind_number k ≡ kind_number l = sym (eqb-true (kind_number x.kind) (kind_number k) (and_left _ _ a)) ∙ eqb-true (kind_number x.kind) (kind_number l) (and_left _ _ b) in
    let texts : t ≡ u = sym (same_is x.raw t (and_right _ _ a)) ∙ same_is x.raw u (and_right _ _ b) in
    and_both _ _ (eq-eqb _ _ kinds) (subst (λ v. same t v ≡ true) texts (same_self t))

pub found_token : (b : Bool) (y : Place) → IsTrue (is_found (cond b y Lost)) → b ≡ true
found_token true y f = refl
found_token false y f = cc

pub one_token : (k l : TokenKind) (t u : Text) (x : Place) → IsTrue (is_found (forth (Tok Operator k t) x)) → IsTrue (is_found (forth (Tok Operator l u) x)) → is_same k t l u ≡ true
one_token k l t u Lost a b = cc
one_token k l t u (At q e text) a b =
    same_lexeme (token Operator (same q []) text) k l t u (found_token _ (At t AfterExpr (token Operator (same q []) text).rest) a) (found_token _ (At u AfterExpr (token Operator (same q []) text).rest) b)

pub apart : (k l : TokenKind) (t u : Text) (x : Place) → is_same k t l u ≡ false → IsTrue (is_found (forth (Tok Operator k t) x)) → is_found (forth (Tok Operator l u) x) ≡ false
apart k l t u x e a = by_not _ (λ b. clash _ (one_token k l t u x a b) e)

pub never_both : (k l : TokenKind) (t u : Text) (x : Place) → is_same k t l u ≡ false → IsTrue (is_found (forth (Tok Operator k t) x)) → IsTrue (is_found (forth (Tok Operator l u) x)) → ⊥
never_both k l t u x e a b = clash _ (one_token k l t u x a b) e

-- ---- `<` where an expression may begin

abbrev is_less : Lexeme → Bool
is_less x = is_token x Punctuator (codes "<")

pub less_first : (f : Bool) (s : Text) → is_less (at_front Operand f s) ≡ true → first_is (nat_eq 60) s ≡ true
less_first f s h = elim (first_is (nat_eq 60) s) as (λ b. first_is (nat_eq 60) s ≡ b → b ≡ true) [ true ↦ λ e. refl | false ↦ λ e. absurd (clash _ h ((other_ahead Punctuator 60 [] Operand s e).not_it f)) ] refl

pub less_or_other : (d : ℕ) (s : Text) → nat_eq d 60 ≡ false → first_is (nat_eq 60) s ≡ true → first_is (nat_eq d) s ≡ false
less_or_other d [] n e = cc
less_or_other d (c ∷ s) n e = subst (λ v. nat_eq d v ≡ false) (eqb-true 60 c e) n

-- no token that begins otherwise
pub less_other : (k : TokenKind) (d : ℕ) (t : Text) (x : Place) → nat_eq d 60 ≡ false → IsTrue (is_found (forth (Tok Operand Punctuator (codes "<")) x)) → IsTrue (is_found (forth (Tok Operator k (d ∷ t)) x)) → ⊥
less_other k d t Lost n a b = cc
less_other k d t (At q e text) n a b =
    let first = same q [] || breaks text in
    let here = less_first first (skip text) (found_token _ (At (codes "<") AfterExpr (token Operand (same q []) text).rest) a) in
    clash _ (found_token _ (At (d ∷ t) AfterExpr (token Operator (same q []) text).rest) b) ((other_ahead k d t Operator (skip text) (less_or_other d (skip text) n here)).not_it first)
