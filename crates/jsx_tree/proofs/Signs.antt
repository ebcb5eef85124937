-- What the signs make of a place, beside tokens.
use Rattle.std.proofs.Common.{◌≡◌, Bool, true, false, not, cond, [], ◌∷◌, refl, sym, ◌∙◌, ap, subst}
use Rattle.std.specs.Prelude.{IsTrue, codes, ◌&&◌, ◌||◌}
use Rattle.jsx_base.specs.Token.{Text, Mode, Operator, TokenKind, Punctuator, Lexeme, is_token, no_token, lexed, state, begins, breaks, skip, at_front, token, same}
use Rattle.jsx_tree.specs.Signs.{Ending, AfterExpr, Tok, Semicolon, TrailingComma, Ends}
use Rattle.jsx_tree.specs.Grammar.{pun}
use Rattle.jsx_tree.specs.Reading.{Place, Lost, At, forth}
use Rattle.jsx_tree.specs.Walk.{is_found}
use Rattle.jsx_tree.proofs.Apart.{by_not, clash, found_token}

-- a token doesn't look at what a semicolon would stand after
pub past_ends : (m : Mode) (k : TokenKind) (t : Text) (e : Ending) (x : Place) → forth (Tok m k t) (forth (Ends e) x) ≡ forth (Tok m k t) x
past_ends m k t e Lost = refl
past_ends m k t e (At q f text) = refl

-- ---- the next token, whether it is the first of the text or not

same_front : (test : Lexeme → Bool) (p q b : Bool) (L N : Lexeme) → test N ≡ false → test (cond (p || ((true || b) && q)) N L) ≡ true → cond (p || ((false || b) && q)) N L ≡ cond (p || ((true || b) && q)) N L
same_front test true q b L N n h = refl
same_front test false true b L N n h = absurd (clash _ h n)
same_front test false false true L N n h = refl
same_front test false false false L N n h = refl

first_at : (test : Lexeme → Bool) → ((s : Text) → test (no_token s) ≡ false) → (b : Bool) (s : Text) → test (at_front Operator (true || b) s) ≡ true → at_front Operator (false || b) s ≡ at_front Operator (true || b) s
first_at test n b [] h = refl
first_at test n b (c ∷ s) h = same_front test (begins (codes "<!--") (c ∷ s)) (begins (codes "-->") (c ∷ s)) b (lexed Operator (state Operator c s) c s) (no_token (c ∷ s)) (n (c ∷ s)) h

pub not_first : (test : Lexeme → Bool) → ((s : Text) → test (no_token s) ≡ false) → (first : Bool) (text : Text) → test (token Operator first text) ≡ true → token Operator false text ≡ token Operator first text
not_first test n false text h = refl
not_first test n true text h = first_at test n (breaks text) (skip text) h

-- ---- a semicolon and a trailing comma

abbrev is_mark : Text → Lexeme → Bool
is_mark t x = is_token x Punctuator t

taken_mark : (t : Text) (l m : Lexeme) (x : Place) (y : Lexeme → Place) → l ≡ m → is_mark t m ≡ true → cond (is_mark t l) (y l) x ≡ cond (is_mark t m) (y m) Lost
taken_mark t l m x y e h = (λ i. cond (is_mark t (e i)) (y (e i)) x) ∙ (ap (λ b. cond b (y m) x) h ∙ sym (ap (λ b. cond b (y m) Lost) h))

pub semi_too : (x : Place) → IsTrue (is_found (forth (pun ";") x)) → forth Semicolon x ≡ forth (pun ";") x
semi_too Lost f = cc
semi_too (At q e text) f =
    let m = token Operator (same q []) text in
    let h : is_mark (codes ";") m ≡ true = found_token (is_mark (codes ";") m) (At (codes ";") AfterExpr m.rest) f in
    taken_mark (codes ";") (token Operator false text) m _ (λ l. At (codes ";") AfterExpr l.rest) (not_first (is_mark (codes ";")) (λ s. refl) (same q []) text h) h

pub comma_too : (x : Place) → IsTrue (is_found (forth (pun ",") x)) → forth TrailingComma x ≡ forth (pun ",") x
comma_too Lost f = cc
comma_too (At q e text) f =
    let m = token Operator (same q []) text in
    let h : is_mark (codes ",") m ≡ true = found_token (is_mark (codes ",") m) (At (codes ",") AfterExpr m.rest) f in
    taken_mark (codes ",") (token Operator false text) m (At q e text) (λ l. At (codes ",") AfterExpr l.rest) (not_first (is_mark (codes ",")) (λ s. refl) (same q []) text h) h

-- where a token stands before the place
abbrev pub begun : Place → Bool
begun Lost = true
begun (At q e text) = not (same q [])

not_empty : (b : Bool) → not b ≡ true → b ≡ false
not_empty true e = cc
not_empty false e = refl

not_mark : (t : Text) (l : Lexeme) (x y : Place) → is_mark t l ≡ false → cond (is_mark t l) y x ≡ x
not_mark t l x y e = ap (λ b. cond b y x) e

pub comma_else : (x : Place) → begun x ≡ true → is_found (forth (pun ",") x) ≡ false → forth TrailingComma x ≡ x
comma_else Lost b f = refl
comma_else (At q e text) b f =
    let same' : token Operator (same q []) text ≡ token Operator false text = ap (λ v. token Operator v text) (not_empty (same q []) b) in
    let l = token Operator false text in
    not_mark (codes ",") l (At q e text) _
    (by_not (is_mark (codes ",") l) (λ h. clash (is_found (forth (pun ",") (At q e text)))
    (subst (λ m. is_found (cond (is_mark (codes ",") m) (At (codes ",") AfterExpr m.rest) Lost) ≡ true) (sym same') (ap (λ v. is_found (cond v (At (codes ",") AfterExpr l.rest) Lost)) h)) f))

begun_at : (b : Bool) (t rest : Text) (y : Place) → cond b (At t AfterExpr rest) Lost ≡ y → same t [] ≡ false → begun y ≡ true
begun_at true t rest y e n = subst (λ p. begun p ≡ true) e (ap not n)
begun_at false t rest y e n = subst (λ p. begun p ≡ true) e refl

pub begun_after : (m : Mode) (k : TokenKind) (t : Text) (x : Place) {y : Place} → forth (Tok m k t) x ≡ y → same t [] ≡ false → begun y ≡ true
begun_after m k t Lost {y} e n = subst (λ p. begun p ≡ true) e refl
begun_after m k t (At q f text) {y} e n = begun_at (is_token (token m (same q []) text) k t) t (token m (same q []) text).rest y e n
