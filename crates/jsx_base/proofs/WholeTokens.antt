-- What a state takes whole, and which token that is.
use Rattle.std.proofs.Common.{◌≡◌, ℕ, Bool, true, false, cond, ◌&&◌, ◌||◌, nat_eq, [], ◌∷◌, refl, sym, ap, ◌∙◌, subst}
use Rattle.std.proofs.lemmas.Bool.Decides.{Decides-eqb}
use Rattle.std.proofs.lemmas.Bool.{false≢true}
use Rattle.jsx_base.specs.Token.{Text, Lexeme, TokenKind, IdentifierName, Punctuator, NumericLiteral, BigIntLiteral, StringLiteral, RegExpLiteral, NoSubstitution, TemplateHead, TemplateMiddle, TemplateTail, JsxName, JsxString, JsxText, Elision, NoToken, kind_number, is_kind, is_digit, is_start, first_is, State, Dead, Done, InName, BehindZero, InDigits, BehindPoint, InFraction, BehindE, BehindSign, InExponent, InBase, BehindN, InString, InEscape, InHex, InUnicode, InBraces, BehindNul, BehindCr, AtRegExp, InRegExp, InRegExpEscape, InFlags, InPiece, InPieceEscape, BehindDollar, InJsxName, InJsxString, InJsxText, is_dead as dead_state, ended, no_token, step, accepts, taken, left, last_state}

-- the state takes the whole text, and it is a token of this kind then
abbrev pub ends_as : TokenKind → State → Text → Bool
ends_as k s [] = is_kind (accepts s) k
ends_as k s (c ∷ t) = ends_as k (step s c) t

pub never : {A : Type 0} → false ≡ true → A
never h = absurd (false≢true h)

pub both : {a b : Bool} → a ≡ true → b ≡ true → (a && b) ≡ true
both p q = rw (p, q) refl

pub number_is : (a b : ℕ) → nat_eq a b ≡ true → a ≡ b
number_is a b h = (Decides-eqb a b).0 h

-- a kind is known by its number
abbrev kind_at : ℕ → TokenKind
kind_at n = cond (nat_eq n 0) IdentifierName (cond (nat_eq n 1) Punctuator (cond (nat_eq n 2) NumericLiteral (cond (nat_eq n 3) BigIntLiteral (cond (nat_eq n 4) StringLiteral (cond (nat_eq n 5) RegExpLiteral (cond (nat_eq n 6) NoSubstitution (cond (nat_eq n 7) TemplateHead (cond (nat_eq n 8) TemplateMiddle (cond (nat_eq n 9) TemplateTail (cond (nat_eq n 10) JsxName (cond (nat_eq n 11) JsxString (cond (nat_eq n 12) JsxText (cond (nat_eq n 13) Elision NoToken)))))))))))))

at_number : (k : TokenKind) → kind_at (kind_number k) ≡ k
at_number IdentifierName = refl
at_number Punctuator = refl
at_number NumericLiteral = refl
at_number BigIntLiteral = refl
at_number StringLiteral = refl
at_number RegExpLiteral = refl
at_number NoSubstitution = refl
at_number TemplateHead = refl
at_number TemplateMiddle = refl
at_number TemplateTail = refl
at_number JsxName = refl
at_number JsxString = refl
at_number JsxText = refl
at_number Elision = refl
at_number NoToken = refl

kind_is : (k l : TokenKind) → is_kind k l ≡ true → k ≡ l
kind_is k l h = sym (at_number k) ∙ ap kind_at (number_is (kind_number k) (kind_number l) h) ∙ at_number l

pub is_itself : (k : TokenKind) → is_kind k k ≡ true
is_itself k = (Decides-eqb (kind_number k) (kind_number k)).1 refl

-- nothing is taken any more
dead : (k : TokenKind) → is_kind NoToken k ≡ false → (t : Text) → ends_as k Dead t ≡ false
dead k none [] = none
dead k none (c ∷ t) = dead k none t

pub is_dead : {A : Type 0} (k : TokenKind) → is_kind NoToken k ≡ false → (t : Text) → ends_as k Dead t ≡ true → A
is_dead k none t h = never (sym (dead k none t) ∙ h)

pub closes : (k : TokenKind) → is_kind NoToken k ≡ false → (t : Text) → ends_as k (Done k) t ≡ true → t ≡ []
closes k none [] h = refl
closes k none (c ∷ t) h = is_dead k none t h

is_over : (s : State) → dead_state s ≡ true → s ≡ Dead
is_over Dead h = refl
is_over (Done k) h = never h
is_over InName h = never h
is_over BehindZero h = never h
is_over (InDigits b) h = never h
is_over BehindPoint h = never h
is_over (InFraction b) h = never h
is_over BehindE h = never h
is_over BehindSign h = never h
is_over (InExponent b) h = never h
is_over (InBase d b) h = never h
is_over BehindN h = never h
is_over (InString q) h = never h
is_over (InEscape q) h = never h
is_over (InHex q n) h = never h
is_over (InUnicode q) h = never h
is_over (InBraces q b v) h = never h
is_over (BehindNul q) h = never h
is_over (BehindCr q) h = never h
is_over AtRegExp h = never h
is_over (InRegExp b) h = never h
is_over (InRegExpEscape b) h = never h
is_over InFlags h = never h
is_over (InPiece a b) h = never h
is_over (InPieceEscape a b) h = never h
is_over (BehindDollar a b) h = never h
is_over InJsxName h = never h
is_over (InJsxString q) h = never h
is_over InJsxText h = never h

record Whole (k : TokenKind) (s : State) (t : Text) : Type 0 where
  takes : taken s t ≡ t
  leaves : left s t ≡ []
  kind : accepts (last_state s t) ≡ k

whole_step : (k : TokenKind) → is_kind NoToken k ≡ false → (s : State) (c : ℕ) (t : Text) (b : Bool) → dead_state (step s c) ≡ b → ends_as k (step s c) t ≡ true → (ends_as k (step s c) t ≡ true → Whole k (step s c) t) → Whole k s (c ∷ t)
whole_step k none s c t true e h more = is_dead k none t (subst (λ (x : State). ends_as k x t ≡ true) (is_over (step s c) e) h)
whole_step k none s c t false e h more =
    let w = more h in
    record { takes = rw e (ap (λ (u : Text). c ∷ u) w.takes); leaves = rw e w.leaves; kind = rw e w.kind }

whole : (k : TokenKind) → is_kind NoToken k ≡ false → (s : State) (t : Text) → ends_as k s t ≡ true → Whole k s t
whole k none s [] h = record { takes = refl; leaves = refl; kind = kind_is (accepts s) k h }
whole k none s (c ∷ t) h = whole_step k none s c t (dead_state (step s c)) refl h (λ l. whole k none (step s c) t l)

taken_step : (k : TokenKind) (s : State) (c : ℕ) (t : Text) (b : Bool) → dead_state (step s c) ≡ b → (taken (step s c) t ≡ t → accepts (last_state (step s c) t) ≡ k → ends_as k (step s c) t ≡ true) → cond b [] (c ∷ taken (step s c) t) ≡ c ∷ t → accepts (cond b s (last_state (step s c) t)) ≡ k → ends_as k (step s c) t ≡ true
taken_step k s c t true e more h l = cc
taken_step k s c t false e more h l = more (let f : taken (step s c) t ≡ t = cc in f) l

taken_ends : (k : TokenKind) (s : State) (t : Text) → taken s t ≡ t → accepts (last_state s t) ≡ k → ends_as k s t ≡ true
taken_ends k s [] h l = rw l (is_itself k)
taken_ends k s (c ∷ t) h l = taken_step k s c t (dead_state (step s c)) refl (λ p r. taken_ends k (step s c) t p r) h l

-- a lexeme of this kind with this text
abbrev pub lexeme_of : TokenKind → Text → Lexeme
lexeme_of k t = record { kind = k; raw = t; rest = [] }

record Same (k l : TokenKind) (r t : Text) : Type 0 where
  kind : k ≡ l
  raw : r ≡ t

same_both : (k l : TokenKind) (raw rest t : Text) → record { kind = k; raw = raw; rest = rest } ≡ lexeme_of l t → Same k l raw t
same_both k l raw rest t h = record { kind = ap (λ (x : Lexeme). x.kind) h; raw = ap (λ (x : Lexeme). x.raw) h }

not_ended : (l : TokenKind) → is_kind NoToken l ≡ false → {A : Type 0} (rest t : Text) → no_token rest ≡ lexeme_of l t → A
not_ended l none rest t h = never (sym none ∙ (ap (λ (x : Lexeme). is_kind x.kind l) h ∙ is_itself l))

same_if : (k l : TokenKind) → is_kind NoToken l ≡ false → (b : Bool) (raw rest t : Text) → cond b (no_token rest) (record { kind = k; raw = raw; rest = rest }) ≡ lexeme_of l t → Same k l raw t
same_if k l none true raw rest t h = not_ended l none rest t h
same_if k l none false raw rest t h = same_both k l raw rest t h

ended_is : (k l : TokenKind) → is_kind NoToken l ≡ false → (raw rest t : Text) → ended k raw rest ≡ lexeme_of l t → Same k l raw t
ended_is NumericLiteral l none raw rest t h = same_if NumericLiteral l none (first_is is_start rest || first_is is_digit rest) raw rest t h
ended_is BigIntLiteral l none raw rest t h = same_if BigIntLiteral l none (first_is is_start rest || first_is is_digit rest) raw rest t h
ended_is NoToken l none raw rest t h = not_ended l none rest t h
ended_is IdentifierName l none raw rest t h = same_both IdentifierName l raw rest t h
ended_is Punctuator l none raw rest t h = same_both Punctuator l raw rest t h
ended_is StringLiteral l none raw rest t h = same_both StringLiteral l raw rest t h
ended_is RegExpLiteral l none raw rest t h = same_both RegExpLiteral l raw rest t h
ended_is NoSubstitution l none raw rest t h = same_both NoSubstitution l raw rest t h
ended_is TemplateHead l none raw rest t h = same_both TemplateHead l raw rest t h
ended_is TemplateMiddle l none raw rest t h = same_both TemplateMiddle l raw rest t h
ended_is TemplateTail l none raw rest t h = same_both TemplateTail l raw rest t h
ended_is JsxName l none raw rest t h = same_both JsxName l raw rest t h
ended_is JsxString l none raw rest t h = same_both JsxString l raw rest t h
ended_is JsxText l none raw rest t h = same_both JsxText l raw rest t h
ended_is Elision l none raw rest t h = same_both Elision l raw rest t h

-- behind its first character, a token is what a state takes whole
pub from_token : (k : TokenKind) → is_kind NoToken k ≡ false → (s : State) (c : ℕ) (t : Text) → ended (accepts (last_state s t)) (c ∷ taken s t) (left s t) ≡ lexeme_of k (c ∷ t) → ends_as k s t ≡ true
from_token k none s c t h =
    let p = ended_is (accepts (last_state s t)) k none (c ∷ taken s t) (left s t) (c ∷ t) h in
    let all : c ∷ taken s t ≡ c ∷ t = p.raw in
    taken_ends k s t (let f : taken s t ≡ t = cc in f) p.kind

pub to_token : (k : TokenKind) → is_kind NoToken k ≡ false → ((raw rest : Text) → ended k raw rest ≡ record { kind = k; raw = raw; rest = rest }) → (s : State) (c : ℕ) (t : Text) → ends_as k s t ≡ true → ended (accepts (last_state s t)) (c ∷ taken s t) (left s t) ≡ lexeme_of k (c ∷ t)
to_token k none plain s c t h = let w = whole k none s t h in rw (w.kind, w.takes, w.leaves) (plain (c ∷ t) [])
