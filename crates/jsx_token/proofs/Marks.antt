-- The signs with which what goes on with an expression begins.
use Rattle.std.proofs.Common.{◌≡◌, nat_eq, Bool, true, false, List, [], ◌∷◌, refl, sym, ◌∙◌, ap, subst}
use Rattle.std.specs.Prelude.{IsTrue, ◌&&◌, ◌||◌}
use Rattle.std.proofs.lemmas.Bool.{eqb-true}
use Rattle.jsx_base.specs.Token.{Text, Operator, Lexeme, kind_number, token, same}
use Rattle.jsx_tree.specs.Signs.{AfterExpr, Sign, Tok}
use Rattle.jsx_tree.specs.Reading.{Place, At, forth}
use Rattle.jsx_tree.specs.Walk.{is_found}
use Rattle.jsx_token.specs.Marks.{marks, is_sign, is_mark}
use Rattle.jsx_token.specs.Growths.{same_sign, has_sign, is_code}
use Rattle.jsx_tree.proofs.Tokens.{and_left, and_right, same_is}
use Rattle.jsx_tree.proofs.Apart.{found_token, one_token}
use Rattle.jsx_tree.proofs.Rows.Stopping.{or_cases, raw_of}

abbrev pub text_of_sign : Sign → Text
text_of_sign (Tok m k t) = t
text_of_sign s = []

-- ---- tests of their texts

abbrev pub every_text : (Text → Bool) → List Sign → Bool
every_text p [] = true
every_text p (s ∷ ss) = p (text_of_sign s) && every_text p ss

pub by_sign : (p : Text → Bool) (s : Sign) (x : Lexeme) → p (text_of_sign s) ≡ true → is_sign x s ≡ true → p x.raw ≡ true
by_sign p (Tok m k t) x a e = subst (λ u. p u ≡ true) (sym (raw_of k t x e)) a
by_sign p _ x a e = cc

pub of_sign : (p : Text → Bool) (ss : List Sign) → every_text p ss ≡ true → (x : Lexeme) → is_mark x ss ≡ true → p x.raw ≡ true
of_sign p [] a x h = cc
of_sign p (s ∷ ss) a x h = or_cases (is_sign x s) (is_mark x ss) h (by_sign p s x (and_left (p (text_of_sign s)) _ a)) (of_sign p ss (and_right (p (text_of_sign s)) _ a) x)

pub of_mark : (p : Text → Bool) → every_text p marks ≡ true → (x : Lexeme) → is_mark x marks ≡ true → p x.raw ≡ true
of_mark p a x h = of_sign p marks a x h

-- ---- one sign and another

sign_to : (s u : Sign) (x : Lexeme) → same_sign s u ≡ true → is_sign x s ≡ true → is_sign x u ≡ true
sign_to (Tok m k t) (Tok l j u) x a e =
    let kinds = eqb-true (kind_number k) (kind_number j) (and_left (nat_eq (kind_number k) (kind_number j)) (same t u) a) in
    let texts = same_is t u (and_right (nat_eq (kind_number k) (kind_number j)) (same t u) a) in
    sym (λ i. nat_eq (kind_number x.kind) (kinds i) && same x.raw (texts i)) ∙ e
sign_to (Tok m k t) _ x a e = cc
sign_to _ u x a e = cc

or_left : (a b : Bool) → a ≡ true → (a || b) ≡ true
or_left a b h = ap (λ c. c || b) h

or_right : (a b : Bool) → b ≡ true → (a || b) ≡ true
or_right true b h = refl
or_right false b h = h

pub mark_by : (s : Sign) (ss : List Sign) → has_sign s ss ≡ true → (x : Lexeme) → is_sign x s ≡ true → is_mark x ss ≡ true
mark_by s [] h x e = cc
mark_by s (u ∷ us) h x e = or_cases (same_sign s u) (has_sign s us) h (λ a. or_left (is_sign x u) (is_mark x us) (sign_to s u x a e)) (λ r. or_right (is_sign x u) (is_mark x us) (mark_by s us r x e))

-- ---- where one stands

pub seen_sign : (s : Sign) (q : Text) (e : _) (text : Text) → is_code s ≡ true → IsTrue (is_found (forth s (At q e text))) → is_sign (token Operator (same q []) text) s ≡ true
seen_sign (Tok Operator k (d ∷ t)) q e text h f = found_token (is_sign (token Operator (same q []) text) (Tok Operator k (d ∷ t))) (At (d ∷ t) AfterExpr (token Operator (same q []) text).rest) f
seen_sign _ q e text h f = cc

pub one_sign : (s u : Sign) (a : Place) → is_code s ≡ true → is_code u ≡ true → IsTrue (is_found (forth s a)) → IsTrue (is_found (forth u a)) → same_sign s u ≡ true
one_sign (Tok Operator k (d ∷ t)) (Tok Operator l (e ∷ u)) a h i f g = one_token k l (d ∷ t) (e ∷ u) a f g
one_sign (Tok Operator k (d ∷ t)) _ a h i f g = cc
one_sign _ u a h i f g = cc
