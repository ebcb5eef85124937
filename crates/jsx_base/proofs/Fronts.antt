-- What the token at the front of a text can't be.
use Rattle.std.proofs.Common.{◌≡◌, ℕ, List, [], ◌∷◌, Bool, true, false, cond, ◌||◌, ◌&&◌, codes, refl, sym, ◌∙◌, subst}
use Rattle.std.specs.Prelude.{nat_eq}
use Rattle.std.proofs.lemmas.Bool.{false≢true, and_left, and_right, and_parts, eqb-true, eq-eqb, false_from_ne_true}
use Rattle.jsx_base.specs.Token.{Text, Mode, TokenKind, IdentifierName, Punctuator, NumericLiteral, BigIntLiteral, StringLiteral, RegExpLiteral, NoSubstitution, TemplateHead, TemplateMiddle, TemplateTail, JsxName, JsxString, JsxText, Elision, NoToken}
use Rattle.jsx_base.specs.Token.{is_kind, State, Dead, Done, InName, BehindZero, InDigits, BehindPoint, InFraction, BehindE, BehindSign, InExponent, InBase, BehindN, InString, InEscape, InHex, InUnicode, InBraces, BehindNul, BehindCr, AtRegExp, InRegExp, InRegExpEscape, InFlags, InPiece, InPieceEscape, BehindDollar, InJsxName, InJsxString, InJsxText}
use Rattle.jsx_base.specs.Token.{Lexeme, same, begins, is_longer, longest, punctuators, punctuator, punct, drop_as, first_is, is_digit, is_start, is_code, ended, no_token, lexed, state, at_front, is_token, accepts, last_state, taken, left}
use Rattle.jsx_base.proofs.Families.{may_be, not_kind}

-- whatever stood before the text; the flag says whether its token is the first of its line: not this token, and none of this kind
pub record IsNotAhead (m : Mode) (k : TokenKind) (text t : Text) : Type 0 where
  pub not_it : (f : Bool) → is_token (at_front m f text) k t ≡ false

pub record NoneAhead (m : Mode) (k : TokenKind) (text : Text) : Type 0 where
  pub none : (f : Bool) → is_kind (at_front m f text).kind k ≡ false

pub either : (P : Lexeme → Type 0) (b : Bool) (x y : Lexeme) → P x → P y → P (cond b x y)
either P true x y p q = p
either P false x y p q = q

-- no token of the kind k

abbrev pub NotKind : TokenKind → Lexeme → Type 0
NotKind k x = is_kind x.kind k ≡ false

pub ended_kind : (k j : TokenKind) (raw rest : Text) → is_kind NoToken k ≡ false → is_kind j k ≡ false → NotKind k (ended j raw rest)
ended_kind k NoToken raw rest n h = n
ended_kind k NumericLiteral raw rest n h = either (NotKind k) (first_is is_start rest || first_is is_digit rest) _ _ n h
ended_kind k BigIntLiteral raw rest n h = either (NotKind k) (first_is is_start rest || first_is is_digit rest) _ _ n h
ended_kind k IdentifierName raw rest n h = h
ended_kind k Punctuator raw rest n h = h
ended_kind k StringLiteral raw rest n h = h
ended_kind k RegExpLiteral raw rest n h = h
ended_kind k NoSubstitution raw rest n h = h
ended_kind k TemplateHead raw rest n h = h
ended_kind k TemplateMiddle raw rest n h = h
ended_kind k TemplateTail raw rest n h = h
ended_kind k JsxName raw rest n h = h
ended_kind k JsxString raw rest n h = h
ended_kind k JsxText raw rest n h = h
ended_kind k Elision raw rest n h = h

punct_kind : (k : TokenKind) (q text : Text) → is_kind NoToken k ≡ false → is_kind Punctuator k ≡ false → NotKind k (punct q text)
punct_kind k [] text n p = n
punct_kind k (c ∷ q) text n p = p

pub kind_by : (k : TokenKind) (s : State) (c : ℕ) (text : Text) → is_kind NoToken k ≡ false → may_be s k ≡ false → NotKind k (ended (accepts (last_state s text)) (c ∷ taken s text) (left s text))
kind_by k s c text n h = ended_kind k (accepts (last_state s text)) (c ∷ taken s text) (left s text) n (not_kind k s text n h)

lexed_kind : (k : TokenKind) (m : Mode) (s : State) (c : ℕ) (text : Text) → is_kind NoToken k ≡ false → is_kind Punctuator k ≡ false → may_be s k ≡ false → NotKind k (lexed m s c text)
lexed_kind k m Dead c text n p h = either (NotKind k) (is_code m) _ _ (punct_kind k (punctuator (c ∷ text)) (c ∷ text) n p) n
lexed_kind k m (Done j) c text n p h = kind_by k (Done j) c text n h
lexed_kind k m InName c text n p h = kind_by k InName c text n h
lexed_kind k m BehindZero c text n p h = kind_by k BehindZero c text n h
lexed_kind k m (InDigits b) c text n p h = kind_by k (InDigits b) c text n h
lexed_kind k m BehindPoint c text n p h = kind_by k BehindPoint c text n h
lexed_kind k m (InFraction b) c text n p h = kind_by k (InFraction b) c text n h
lexed_kind k m BehindE c text n p h = kind_by k BehindE c text n h
lexed_kind k m BehindSign c text n p h = kind_by k BehindSign c text n h
lexed_kind k m (InExponent b) c text n p h = kind_by k (InExponent b) c text n h
lexed_kind k m (InBase d b) c text n p h = kind_by k (InBase d b) c text n h
lexed_kind k m BehindN c text n p h = kind_by k BehindN c text n h
lexed_kind k m (InString q) c text n p h = kind_by k (InString q) c text n h
lexed_kind k m (InEscape q) c text n p h = kind_by k (InEscape q) c text n h
lexed_kind k m (InHex q i) c text n p h = kind_by k (InHex q i) c text n h
lexed_kind k m (InUnicode q) c text n p h = kind_by k (InUnicode q) c text n h
lexed_kind k m (InBraces q b v) c text n p h = kind_by k (InBraces q b v) c text n h
lexed_kind k m (BehindNul q) c text n p h = kind_by k (BehindNul q) c text n h
lexed_kind k m (BehindCr q) c text n p h = kind_by k (BehindCr q) c text n h
lexed_kind k m AtRegExp c text n p h = kind_by k AtRegExp c text n h
lexed_kind k m (InRegExp b) c text n p h = kind_by k (InRegExp b) c text n h
lexed_kind k m (InRegExpEscape b) c text n p h = kind_by k (InRegExpEscape b) c text n h
lexed_kind k m InFlags c text n p h = kind_by k InFlags c text n h
lexed_kind k m (InPiece a b) c text n p h = kind_by k (InPiece a b) c text n h
lexed_kind k m (InPieceEscape a b) c text n p h = kind_by k (InPieceEscape a b) c text n h
lexed_kind k m (BehindDollar a b) c text n p h = kind_by k (BehindDollar a b) c text n h
lexed_kind k m InJsxName c text n p h = kind_by k InJsxName c text n h
lexed_kind k m (InJsxString q) c text n p h = kind_by k (InJsxString q) c text n h
lexed_kind k m InJsxText c text n p h = kind_by k InJsxText c text n h

pub none_ahead : (k : TokenKind) (m : Mode) (c : ℕ) (text : Text) → is_kind NoToken k ≡ false → is_kind Punctuator k ≡ false → may_be (state m c text) k ≡ false → NoneAhead m k (c ∷ text)
none_ahead k m c text n p h = record {
  none = λ f.
      either (NotKind k) (is_code m && (begins (codes "<!--") (c ∷ text) || (f && begins (codes "-->") (c ∷ text)))) _ _ n (lexed_kind k m (state m c text) c text n p h);
}

-- no token that begins with the character d

abbrev NotFirst : ℕ → Text → Lexeme → Type 0
NotFirst d t x = same x.raw (d ∷ t) ≡ false

ended_first : (d : ℕ) (t : Text) (j : TokenKind) (c : ℕ) (raw rest : Text) → nat_eq c d ≡ false → NotFirst d t (ended j (c ∷ raw) rest)
ended_first d t NoToken c raw rest e = refl
ended_first d t NumericLiteral c raw rest e = either (NotFirst d t) (first_is is_start rest || first_is is_digit rest) _ _ refl (and_left _ _ e)
ended_first d t BigIntLiteral c raw rest e = either (NotFirst d t) (first_is is_start rest || first_is is_digit rest) _ _ refl (and_left _ _ e)
ended_first d t IdentifierName c raw rest e = and_left _ _ e
ended_first d t Punctuator c raw rest e = and_left _ _ e
ended_first d t StringLiteral c raw rest e = and_left _ _ e
ended_first d t RegExpLiteral c raw rest e = and_left _ _ e
ended_first d t NoSubstitution c raw rest e = and_left _ _ e
ended_first d t TemplateHead c raw rest e = and_left _ _ e
ended_first d t TemplateMiddle c raw rest e = and_left _ _ e
ended_first d t TemplateTail c raw rest e = and_left _ _ e
ended_first d t JsxName c raw rest e = and_left _ _ e
ended_first d t JsxString c raw rest e = and_left _ _ e
ended_first d t JsxText c raw rest e = and_left _ _ e
ended_first d t Elision c raw rest e = and_left _ _ e

pub turned : (d c : ℕ) → nat_eq d c ≡ false → nat_eq c d ≡ false
turned d c e = false_from_ne_true (nat_eq c d) (λ h. false≢true (sym e ∙ eq-eqb d c (sym (eqb-true c d h))))

abbrev Other : ℕ → Text → Text → Type 0
Other d t q = same q (d ∷ t) ≡ false

other_begins : (d : ℕ) (t q : Text) (c : ℕ) (text : Text) → nat_eq c d ≡ false → begins q (c ∷ text) ≡ true → Other d t q
other_begins d t [] c text e b = refl
other_begins d t (a ∷ q) c text e b =
    let same_first : a ≡ c = eqb-true a c ((and_parts (nat_eq a c) (begins q text) b).0) in
    and_left (nat_eq a d) (same q t) (subst (λ x. nat_eq x d ≡ false) (sym same_first) e)

choice : (d : ℕ) (t : Text) (b : Bool) (x y : Text) → (b ≡ true → Other d t x) → Other d t y → Other d t (cond b x y)
choice d t true x y p q = p refl
choice d t false x y p q = q

other_longest : (d : ℕ) (t : Text) (qs : List Text) (c : ℕ) (text : Text) → nat_eq c d ≡ false → Other d t (longest qs (c ∷ text))
other_longest d t [] c text e = refl
other_longest d t (q ∷ qs) c text e =
    choice d t (is_longer (cond (begins q (c ∷ text)) q []) (longest qs (c ∷ text))) _ _
    (λ _. choice d t (begins q (c ∷ text)) q [] (λ b. other_begins d t q c text e b) refl) (other_longest d t qs c text e)

punct_first : (d : ℕ) (t q text : Text) → Other d t q → NotFirst d t (punct q text)
punct_first d t [] text o = refl
punct_first d t (c ∷ q) text o = o

question : (d c : ℕ) (text : Text) → nat_eq c d ≡ false → begins (codes "?.") (c ∷ text) ≡ true → nat_eq 63 d ≡ false
question d c text e b = subst (λ x. nat_eq x d ≡ false) (sym (eqb-true 63 c ((and_parts (nat_eq 63 c) _ b).0))) e

punctuator_first : (d : ℕ) (t : Text) (c : ℕ) (text : Text) → nat_eq c d ≡ false → Other d t (punctuator (c ∷ text))
punctuator_first d t c text e =
    choice d t (begins (codes "?.") (c ∷ text) && first_is is_digit (drop_as (codes "?.") (c ∷ text))) _ _
    (λ b. and_left (nat_eq 63 d) (same [] t) (question d c text e ((and_parts (begins (codes "?.") (c ∷ text)) _ b).0))) (other_longest d t punctuators c text e)

by_state : (d : ℕ) (t : Text) (s : State) (c : ℕ) (text : Text) → nat_eq c d ≡ false → NotFirst d t (ended (accepts (last_state s text)) (c ∷ taken s text) (left s text))
by_state d t s c text e = ended_first d t (accepts (last_state s text)) c (taken s text) (left s text) e

lexed_first : (d : ℕ) (t : Text) (m : Mode) (s : State) (c : ℕ) (text : Text) → nat_eq c d ≡ false → NotFirst d t (lexed m s c text)
lexed_first d t m Dead c text e =
    either (NotFirst d t) (is_code m) _ _ (punct_first d t (punctuator (c ∷ text)) (c ∷ text) (punctuator_first d t c text e)) refl
lexed_first d t m (Done j) c text e = by_state d t (Done j) c text e
lexed_first d t m InName c text e = by_state d t InName c text e
lexed_first d t m BehindZero c text e = by_state d t BehindZero c text e
lexed_first d t m (InDigits b) c text e = by_state d t (InDigits b) c text e
lexed_first d t m BehindPoint c text e = by_state d t BehindPoint c text e
lexed_first d t m (InFraction b) c text e = by_state d t (InFraction b) c text e
lexed_first d t m BehindE c text e = by_state d t BehindE c text e
lexed_first d t m BehindSign c text e = by_state d t BehindSign c text e
lexed_first d t m (InExponent b) c text e = by_state d t (InExponent b) c text e
lexed_first d t m (InBase y b) c text e = by_state d t (InBase y b) c text e
lexed_first d t m BehindN c text e = by_state d t BehindN c text e
lexed_first d t m (InString q) c text e = by_state d t (InString q) c text e
lexed_first d t m (InEscape q) c text e = by_state d t (InEscape q) c text e
lexed_first d t m (InHex q n) c text e = by_state d t (InHex q n) c text e
lexed_first d t m (InUnicode q) c text e = by_state d t (InUnicode q) c text e
lexed_first d t m (InBraces q b v) c text e = by_state d t (InBraces q b v) c text e
lexed_first d t m (BehindNul q) c text e = by_state d t (BehindNul q) c text e
lexed_first d t m (BehindCr q) c text e = by_state d t (BehindCr q) c text e
lexed_first d t m AtRegExp c text e = by_state d t AtRegExp c text e
lexed_first d t m (InRegExp b) c text e = by_state d t (InRegExp b) c text e
lexed_first d t m (InRegExpEscape b) c text e = by_state d t (InRegExpEscape b) c text e
lexed_first d t m InFlags c text e = by_state d t InFlags c text e
lexed_first d t m (InPiece a b) c text e = by_state d t (InPiece a b) c text e
lexed_first d t m (InPieceEscape a b) c text e = by_state d t (InPieceEscape a b) c text e
lexed_first d t m (BehindDollar a b) c text e = by_state d t (BehindDollar a b) c text e
lexed_first d t m InJsxName c text e = by_state d t InJsxName c text e
lexed_first d t m (InJsxString q) c text e = by_state d t (InJsxString q) c text e
lexed_first d t m InJsxText c text e = by_state d t InJsxText c text e

not_it : (k : TokenKind) (d : ℕ) (t : Text) (x : Lexeme) → NotFirst d t x → is_token x k (d ∷ t) ≡ false
not_it k d t x e = and_right (is_kind x.kind k) (same x.raw (d ∷ t)) e

pub other_ahead : (k : TokenKind) (d : ℕ) (t : Text) (m : Mode) (text : Text) → first_is (nat_eq d) text ≡ false → IsNotAhead m k text (d ∷ t)
other_ahead k d t m [] e = record { not_it = λ f. not_it k d t (no_token []) refl }
other_ahead k d t m (c ∷ text) e = record {
  not_it = λ f. not_it k d t (at_front m f (c ∷ text))
      (either (NotFirst d t) (is_code m && (begins (codes "<!--") (c ∷ text) || (f && begins (codes "-->") (c ∷ text)))) _ _ refl
      (lexed_first d t m (state m c text) c text (turned d c e)));
}
