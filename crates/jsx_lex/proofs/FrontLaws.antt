-- The token at the front of a text.
use Rattle.std.proofs.Common.{◌≡◌, ℕ, [], ◌∷◌, Bool, true, false, cond, ◌||◌, codes, refl, sym, ap, ◌∙◌, subst, Option, Some, None, MatchOption}
use Rattle.std.specs.Prelude.{nat_eq, IfSome}
use Rattle.std.specs.Str.{chars}
use Rattle.std.proofs.lemmas.Bool.{false≢true, ne_eqb}
use Rattle.jsx_base.specs.Token.{Text, Mode, Children, Tag, Piece, TokenKind as Kind, IdentifierName, Punctuator, NumericLiteral, BigIntLiteral, StringLiteral, RegExpLiteral, NoSubstitution, TemplateHead, TemplateMiddle, TemplateTail, JsxName, JsxString, JsxText, Elision, NoToken}
use Rattle.jsx_base.specs.Token.{is_kind, State, Dead, Done, InName, BehindZero, InDigits, BehindPoint, InFraction, BehindE, BehindSign, InExponent, InBase, BehindN, InString, InEscape, InHex, InUnicode, InBraces, BehindNul, BehindCr, AtRegExp, InRegExp, InRegExpEscape, InFlags, InPiece, InPieceEscape, BehindDollar, InJsxName, InJsxString, InJsxText}
use Rattle.jsx_base.specs.Token.{Lexeme, is_dead, in_piece, is_start, is_one_of, ended, no_token, lexed, state, at_front, accepts, last_state, taken, left}
use Rattle.jsx_lex.specs.declared.token.TokenKind.{TokenKind}
use Rattle.jsx_lex.specs.declared.token.TokenKind.TheVariants as token
use Rattle.jsx_lex.specs.declared.machine.Found.{Found}
use Rattle.jsx_lex.specs.Front.{IsFound, IsTagMark}
use Rattle.jsx_lex.specs.Kinds.{kind_of, is_punctuator, spelling}
use Rattle.jsx_lex.specs.Places.{EndsWith}
use Rattle.jsx_lex.specs.Taken.{IsTaken, NoneTaken}
use Rattle.jsx_lex.proofs.Endings.{ends_within}

pub lexed_alive : (m : Mode) (s : State) (c : ℕ) (text : Text) → is_dead s ≡ false → lexed m s c text ≡ ended (accepts (last_state s text)) (c ∷ taken s text) (left s text)
lexed_alive m Dead c text n = absurd (false≢true (sym n))
lexed_alive m (Done j) c text n = refl
lexed_alive m InName c text n = refl
lexed_alive m BehindZero c text n = refl
lexed_alive m (InDigits b) c text n = refl
lexed_alive m BehindPoint c text n = refl
lexed_alive m (InFraction b) c text n = refl
lexed_alive m BehindE c text n = refl
lexed_alive m BehindSign c text n = refl
lexed_alive m (InExponent b) c text n = refl
lexed_alive m (InBase y b) c text n = refl
lexed_alive m BehindN c text n = refl
lexed_alive m (InString q) c text n = refl
lexed_alive m (InEscape q) c text n = refl
lexed_alive m (InHex q n) c text z = refl
lexed_alive m (InUnicode q) c text n = refl
lexed_alive m (InBraces q b v) c text n = refl
lexed_alive m (BehindNul q) c text n = refl
lexed_alive m (BehindCr q) c text n = refl
lexed_alive m AtRegExp c text n = refl
lexed_alive m (InRegExp b) c text n = refl
lexed_alive m (InRegExpEscape b) c text n = refl
lexed_alive m InFlags c text n = refl
lexed_alive m (InPiece a b) c text n = refl
lexed_alive m (InPieceEscape a b) c text n = refl
lexed_alive m (BehindDollar a b) c text n = refl
lexed_alive m InJsxName c text n = refl
lexed_alive m (InJsxString q) c text n = refl
lexed_alive m InJsxText c text n = refl

-- by an automaton

pub found_taken : (m : Mode) (s : State) (c : ℕ) (text : Text) (k : TokenKind) (rest : Text) → is_dead s ≡ false → IsTaken s text k rest → IsFound (lexed m s c text) k rest
found_taken m s c text k rest n t =
    let raw : Text = c ∷ taken s text in
    let e : lexed m s c text ≡ record { kind = kind_of k; raw = raw; rest = rest } =
    lexed_alive m s c text n ∙ (ap (λ j. ended j raw (left s text)) t.literal.kind_is ∙ (ap (λ x. ended (kind_of k) raw x) t.rest_is ∙ t.whole raw)) in
    record {
      kind_is = ap (λ x. x.kind) e;
      rest_is = ap (λ x. x.rest) e;
      spelled = λ h. absurd (false≢true (sym t.literal.no_mark ∙ h));
      is_some = t.literal.is_some;
    }

pub none_taken : (m : Mode) (s : State) (c : ℕ) (text : Text) → is_dead s ≡ false → NoneTaken s text → (lexed m s c text).kind ≡ NoToken
none_taken m s c text n t = ap (λ x. x.kind) (lexed_alive m s c text n ∙ t.none (c ∷ taken s text))

-- punctuators of one character

is_Punctuator : (j : Kind) → is_kind j Punctuator ≡ true → j ≡ Punctuator
is_Punctuator IdentifierName h = absurd (false≢true h)
is_Punctuator Punctuator h = refl
is_Punctuator NumericLiteral h = absurd (false≢true h)
is_Punctuator BigIntLiteral h = absurd (false≢true h)
is_Punctuator StringLiteral h = absurd (false≢true h)
is_Punctuator RegExpLiteral h = absurd (false≢true h)
is_Punctuator NoSubstitution h = absurd (false≢true h)
is_Punctuator TemplateHead h = absurd (false≢true h)
is_Punctuator TemplateMiddle h = absurd (false≢true h)
is_Punctuator TemplateTail h = absurd (false≢true h)
is_Punctuator JsxName h = absurd (false≢true h)
is_Punctuator JsxString h = absurd (false≢true h)
is_Punctuator JsxText h = absurd (false≢true h)
is_Punctuator Elision h = absurd (false≢true h)
is_Punctuator NoToken h = absurd (false≢true h)

pub found_mark : (x : Lexeme) (k : TokenKind) (rest : Text) → is_punctuator k ≡ true → x ≡ record { kind = Punctuator; raw = spelling k; rest = rest } → IsFound x k rest
found_mark x k rest h e =
    let j : kind_of k ≡ Punctuator = is_Punctuator (kind_of k) h in
    record { kind_is = ap (λ x. x.kind) e ∙ sym j; rest_is = ap (λ x. x.rest) e; spelled = λ _. ap (λ x. x.raw) e; is_some = ap (λ j. is_kind j NoToken) j }

lexed_done : (m : Mode) (c : ℕ) (text : Text) → lexed m (Done Punctuator) c text ≡ record { kind = Punctuator; raw = c ∷ []; rest = text }
lexed_done m c [] = refl
lexed_done m c (d ∷ text) = refl

pub found_done : (m : Mode) (s : State) (c : ℕ) (text : Text) (k : TokenKind) → s ≡ Done Punctuator → spelling k ≡ c ∷ [] → is_punctuator k ≡ true → IsFound (lexed m s c text) k text
found_done m s c text k e p h =
    found_mark (lexed m s c text) k text h (ap (λ s. lexed m s c text) e ∙ (lexed_done m c text ∙ ap (λ q. record { kind = Punctuator; raw = q; rest = text }) (sym p)))

pub child_brace : (f : Bool) (c : ℕ) (text : Text) → c ≡ 123 → IsFound (at_front Children f (c ∷ text)) token.LeftBrace text
child_brace f c text e = subst (λ x. IsFound (at_front Children f (x ∷ text)) token.LeftBrace text) (sym e) (found_done Children (Done Punctuator) 123 text token.LeftBrace refl refl refl)

pub child_less : (f : Bool) (c : ℕ) (text : Text) → c ≡ 60 → IsFound (at_front Children f (c ∷ text)) token.Less text
child_less f c text e = subst (λ x. IsFound (at_front Children f (x ∷ text)) token.Less text) (sym e) (found_done Children (Done Punctuator) 60 text token.Less refl refl refl)

pub first_of : (b : Bool) (x y : State) → b ≡ true → cond b x y ≡ x
first_of true x y e = refl
first_of false x y e = absurd (false≢true e)

pub second_of : (b : Bool) (x y : State) → b ≡ false → cond b x y ≡ y
second_of true x y e = absurd (false≢true (sym e))
second_of false x y e = refl

no_quote : (c : ℕ) → (c ≡ 34 → ⊥) → (c ≡ 39 → ⊥) → (nat_eq c 34 || nat_eq c 39) ≡ false
no_quote c h k = ap (λ b. b || nat_eq c 39) (ne_eqb c 34 h) ∙ ne_eqb c 39 k

pub tag_is : (f : Bool) (c : ℕ) (text : Text) (k : TokenKind) → is_start c ≡ false → (c ≡ 34 → ⊥) → (c ≡ 39 → ⊥) → IsTagMark c k → IsFound (at_front Tag f (c ∷ text)) k text
tag_is f c text k n h j m =
    found_done Tag (state Tag c text) c text k
    (second_of (is_start c) _ _ n ∙ (second_of (nat_eq c 34 || nat_eq c 39) _ _ (no_quote c h j) ∙ first_of (is_one_of c (codes "<>/=:.{")) _ _ m.is_one)) m.spelling_is m.is_mark

-- a template's piece, from its first character on

piece_alive : (a b c : Bool) (k j : Kind) → is_dead (cond a (Done k) (cond b (InPieceEscape k j) (cond c (BehindDollar k j) (InPiece k j)))) ≡ false
piece_alive true b c k j = refl
piece_alive false true c k j = refl
piece_alive false false true k j = refl
piece_alive false false false k j = refl

lives : (c : ℕ) → is_dead (in_piece TemplateTail TemplateMiddle c) ≡ false
lives c = piece_alive (nat_eq c 96) (nat_eq c 92) (nat_eq c 36) TemplateTail TemplateMiddle

abbrev piece : State
piece = InPiece TemplateTail TemplateMiddle

last_is : (c : ℕ) (text : Text) → last_state piece (c ∷ text) ≡ last_state (in_piece TemplateTail TemplateMiddle c) text
last_is c text = ap (λ b. cond b piece (last_state (in_piece TemplateTail TemplateMiddle c) text)) (lives c)

left_is : (c : ℕ) (text : Text) → left piece (c ∷ text) ≡ left (in_piece TemplateTail TemplateMiddle c) text
left_is c text = ap (λ b. cond b (c ∷ text) (left (in_piece TemplateTail TemplateMiddle c) text)) (lives c)

taken_further : (c : ℕ) (text : Text) (k : TokenKind) (rest : Text) → IsTaken piece (c ∷ text) k rest → IsTaken (in_piece TemplateTail TemplateMiddle c) text k rest
taken_further c text k rest t = record {
  literal = record { kind_is = ap accepts (sym (last_is c text)) ∙ t.literal.kind_is; is_some = t.literal.is_some; no_mark = t.literal.no_mark };
  rest_is = sym (left_is c text) ∙ t.rest_is;
  whole = t.whole;
}

none_further : (c : ℕ) (text : Text) → NoneTaken piece (c ∷ text) → NoneTaken (in_piece TemplateTail TemplateMiddle c) text
none_further c text t = record {
  none = λ raw.
      ap (λ s. ended (accepts s) raw (left (in_piece TemplateTail TemplateMiddle c) text)) (sym (last_is c text))
      ∙ (ap (λ x. ended (accepts (last_state piece (c ∷ text))) raw x) (sym (left_is c text)) ∙ (t.none raw ∙ ap no_token (left_is c text)));
}

pub piece_is : (f : Bool) (whole : Text) (c : ℕ) (text : Text) (r : Option Found) → whole ≡ c ∷ text → MatchOption r (NoneTaken piece whole) (λ x. IsTaken piece whole x.kind (chars x.rest.now)) → MatchOption r ((at_front Piece f whole).kind ≡ NoToken) (λ x. IsFound (at_front Piece f whole) x.kind (chars x.rest.now))
piece_is f whole c text None e h =
    subst (λ w. (at_front Piece f w).kind ≡ NoToken) (sym e) (none_taken Piece (in_piece TemplateTail TemplateMiddle c) c text (lives c) (none_further c text (subst (NoneTaken piece) e h)))
piece_is f whole c text (Some x) e h =
    subst (λ w. IsFound (at_front Piece f w) x.kind (chars x.rest.now)) (sym e)
    (found_taken Piece (in_piece TemplateTail TemplateMiddle c) c text x.kind (chars x.rest.now) (lives c) (taken_further c text x.kind (chars x.rest.now) (subst (λ w. IsTaken piece w x.kind (chars x.rest.now)) e h)))

-- the ends of a text's end
pub ends_further : (s t : Text) (r : Option Found) → EndsWith s t → IfSome r (λ x. EndsWith t x.rest.now) → IfSome r (λ x. EndsWith s x.rest.now)
ends_further s t None e h = h
ends_further s t (Some x) e h = ends_within s t x.rest.now e h
