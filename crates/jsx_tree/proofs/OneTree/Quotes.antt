-- A template's first token begins with a backquote.
use Rattle.std.proofs.Common.{◌≡◌, ℕ, Bool, true, false, cond, [], ◌∷◌, refl, sym, subst}
use Rattle.std.specs.Prelude.{IsTrue, ◌&&◌, ◌||◌, nat_eq}
use Rattle.jsx_base.specs.Token.{Text, Operator, TokenKind, IdentifierName, Punctuator, NumericLiteral, BigIntLiteral, StringLiteral, RegExpLiteral, NoSubstitution, TemplateHead, TemplateMiddle, TemplateTail, JsxName, JsxString, JsxText, Elision, NoToken, State, state, is_kind, is_token, is_start, is_digit, first_is, same, skip, breaks, token, at_front, ended, accepts, last_state, taken, left, InPiece}
use Rattle.std.proofs.lemmas.Bool.{eq-eqb}
use Rattle.jsx_tree.specs.Signs.{Tok}
use Rattle.jsx_tree.specs.Reading.{Place, Lost, At, forth, go_if, is_backquote}
use Rattle.jsx_tree.proofs.Tokens.{and_left}
use Rattle.jsx_base.proofs.Families.{may_be}
use Rattle.jsx_base.proofs.Fronts.{either, none_ahead, other_ahead}
use Rattle.jsx_tree.specs.Walk.{is_found}
use Rattle.jsx_tree.proofs.OneTree.Readings.{is_quote}
use Rattle.jsx_tree.proofs.OneTree.Facts.{never, Test, yes', no', test, eq_nat}

pub may_cond : (k : TokenKind) (b : Bool) (x y : State) → may_be x k ≡ false → may_be y k ≡ false → may_be (cond b x y) k ≡ false
may_cond k true x y p q = p
may_cond k false x y p q = q

pub may_not : (k : TokenKind) (b : Bool) (x y : State) → b ≡ false → may_be y k ≡ false → may_be (cond b x y) k ≡ false
may_not k true x y e q = absurd (never true refl e)
may_not k false x y e q = q

no_quote_state : (k : TokenKind) (c : ℕ) (s : Text) → nat_eq c 96 ≡ false → (k ≡ NoSubstitution → may_be (state Operator c s) k ≡ false) × (k ≡ TemplateHead → may_be (state Operator c s) k ≡ false)
no_quote_state k c s e = (
  (λ p. subst (λ k. may_be (state Operator c s) k ≡ false) (sym p)
      (may_cond NoSubstitution (is_start c) _ _ refl (may_cond NoSubstitution (nat_eq c 48) _ _ refl (may_cond NoSubstitution (is_digit c) _ _ refl (may_cond NoSubstitution (nat_eq c 46 && first_is is_digit s) _ _ refl (may_cond NoSubstitution (nat_eq c 34 || nat_eq c 39) _ _ refl (may_not NoSubstitution (nat_eq c 96) _ _ e refl))))))),
  (λ p. subst (λ k. may_be (state Operator c s) k ≡ false) (sym p)
      (may_cond TemplateHead (is_start c) _ _ refl (may_cond TemplateHead (nat_eq c 48) _ _ refl (may_cond TemplateHead (is_digit c) _ _ refl (may_cond TemplateHead (nat_eq c 46 && first_is is_digit s) _ _ refl (may_cond TemplateHead (nat_eq c 34 || nat_eq c 39) _ _ refl (may_not TemplateHead (nat_eq c 96) _ _ e refl))))))),
)

and_no : (b : Bool) → (b && false) ≡ false
and_no true = refl
and_no false = refl

not_and : (a b : Bool) → a ≡ false → (a && b) ≡ false
not_and true b e = absurd (never true refl e)
not_and false b e = refl

ended_empty : (k j : TokenKind) (c : ℕ) (raw rest : Text) → is_kind NoToken k ≡ false → is_token (ended j (c ∷ raw) rest) k [] ≡ false
ended_empty k NoToken c raw rest n = not_and (is_kind NoToken k) true n
ended_empty k NumericLiteral c raw rest n = either (λ x. is_token x k [] ≡ false) (first_is is_start rest || first_is is_digit rest) _ _ (not_and (is_kind NoToken k) true n) (and_no (is_kind NumericLiteral k))
ended_empty k BigIntLiteral c raw rest n = either (λ x. is_token x k [] ≡ false) (first_is is_start rest || first_is is_digit rest) _ _ (not_and (is_kind NoToken k) true n) (and_no (is_kind BigIntLiteral k))
ended_empty k IdentifierName c raw rest n = and_no (is_kind IdentifierName k)
ended_empty k Punctuator c raw rest n = and_no (is_kind Punctuator k)
ended_empty k StringLiteral c raw rest n = and_no (is_kind StringLiteral k)
ended_empty k RegExpLiteral c raw rest n = and_no (is_kind RegExpLiteral k)
ended_empty k NoSubstitution c raw rest n = and_no (is_kind NoSubstitution k)
ended_empty k TemplateHead c raw rest n = and_no (is_kind TemplateHead k)
ended_empty k TemplateMiddle c raw rest n = and_no (is_kind TemplateMiddle k)
ended_empty k TemplateTail c raw rest n = and_no (is_kind TemplateTail k)
ended_empty k JsxName c raw rest n = and_no (is_kind JsxName k)
ended_empty k JsxString c raw rest n = and_no (is_kind JsxString k)
ended_empty k JsxText c raw rest n = and_no (is_kind JsxText k)
ended_empty k Elision c raw rest n = and_no (is_kind Elision k)

turned : (c : ℕ) → nat_eq 96 c ≡ false → nat_eq c 96 ≡ false
turned c e = by_case (test (nat_eq c 96))
  where
    by_case : Test (nat_eq c 96) → nat_eq c 96 ≡ false
    by_case (no' n) = n
    by_case (yes' y) = absurd (never (nat_eq 96 c) (subst (λ d. nat_eq 96 d ≡ true) (sym (eq_nat y)) refl) e)

pub turned_by : (d c : ℕ) → nat_eq d c ≡ false → nat_eq c d ≡ false
turned_by d c e = by_case (test (nat_eq c d))
  where
    by_case : Test (nat_eq c d) → nat_eq c d ≡ false
    by_case (no' n) = n
    by_case (yes' y) = absurd (never (nat_eq d c) (eq-eqb d c (sym (eq_nat y))) e)

quote_front : (k : TokenKind) (f : Bool) (s t : Text) → is_kind NoToken k ≡ false → is_kind Punctuator k ≡ false → ((c : ℕ) (s : Text) → nat_eq c 96 ≡ false → may_be (state Operator c s) k ≡ false) → is_token (at_front Operator f s) k t ≡ true → is_backquote t ≡ true
quote_front k f [] t n p m h = absurd (never _ (and_left (is_kind NoToken k) _ h) n)
quote_front k f (c ∷ s) t n p m h = by_case (test (nat_eq 96 c))
  where
    by_case : Test (nat_eq 96 c) → is_backquote t ≡ true
    by_case (no' e) = absurd (never _ (and_left (is_kind (at_front Operator f (c ∷ s)).kind k) _ h) ((none_ahead k Operator c s n p (m c s (turned c e))).none f))
    by_case (yes' e) = by_text t h
      where
        by_text : (t : Text) → is_token (at_front Operator f (c ∷ s)) k t ≡ true → is_backquote t ≡ true
        by_text [] h =
            let g : is_token (at_front Operator f (96 ∷ s)) k [] ≡ true = subst (λ c. is_token (at_front Operator f (c ∷ s)) k [] ≡ true) (sym (eq_nat e)) h in
            absurd (never _ (front_ends f g) (ended_empty k (accepts (last_state (InPiece NoSubstitution TemplateHead) s)) 96 (taken (InPiece NoSubstitution TemplateHead) s) (left (InPiece NoSubstitution TemplateHead) s) n))
          where
            front_ends : (f : Bool) → is_token (at_front Operator f (96 ∷ s)) k [] ≡ true → is_token (ended (accepts (last_state (InPiece NoSubstitution TemplateHead) s)) (96 ∷ taken (InPiece NoSubstitution TemplateHead) s) (left (InPiece NoSubstitution TemplateHead) s)) k [] ≡ true
            front_ends true g = g
            front_ends false g = g
        by_text (d ∷ t) h = by_first (test (nat_eq 96 d))
          where
            by_first : Test (nat_eq 96 d) → nat_eq 96 d ≡ true
            by_first (yes' g) = g
            by_first (no' g) = absurd (never _ h ((other_ahead k d t Operator (c ∷ s) (subst (λ c. nat_eq d c ≡ false) (eq_nat e) (turned d g))).not_it f))

pub if_found : (b : Bool) (x : Place) → IsTrue (is_found (go_if b x)) → b ≡ true
if_found true x e = refl
if_found false x e = cc

pub quote_begins : (k : TokenKind) (t : Text) (x : Place) → is_quote k ≡ true → IsTrue (is_found (forth (Tok Operator k t) x)) → is_backquote t ≡ true
quote_begins k t Lost q f = cc
quote_begins NoSubstitution t (At p e text) q f = quote_front NoSubstitution (same p [] || breaks text) (skip text) t refl refl (λ c s n. (no_quote_state NoSubstitution c s n).0 refl) (if_found (is_token (token Operator (same p []) text) NoSubstitution t) _ f)
quote_begins TemplateHead t (At p e text) q f = quote_front TemplateHead (same p [] || breaks text) (skip text) t refl refl (λ c s n. (no_quote_state TemplateHead c s n).1 refl) (if_found (is_token (token Operator (same p []) text) TemplateHead t) _ f)
quote_begins _ t (At p e text) q f = cc
