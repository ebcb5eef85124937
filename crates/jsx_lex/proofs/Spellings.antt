-- Two punctuators have two texts: what a caller knows of a token from its kind.
use Rattle.std.proofs.Common.{◌≡◌, List, [], ◌∷◌, true, false, cond, refl, sym, ap, ◌∙◌}
use Rattle.std.specs.Prelude.{nat_eq}
use Rattle.std.proofs.lemmas.Bool.{false≢true, and_from, and_parts, false_from_ne_true, eq-eqb}
use Rattle.jsx_base.specs.Token.{Text, Lexeme, Punctuator, is_kind, is_token, same, punctuators}
use Rattle.jsx_lex.specs.declared.token.TokenKind.{TokenKind}
use Rattle.jsx_lex.specs.declared.token.TokenKind.TheVariants as token
use Rattle.jsx_lex.specs.Kinds.{kind_of, is_punctuator, spelling}
use Rattle.jsx_base.proofs.Longest.{same_is}

-- the kinds in the order of the table
abbrev kinds : List TokenKind
kinds =
    token.LeftBrace ∷ token.RightBrace ∷ token.LeftParen ∷ token.RightParen ∷ token.LeftBracket ∷ token.RightBracket ∷ token.Semicolon ∷ token.Comma ∷ token.Less ∷ token.Greater ∷ token.LessEqual ∷ token.GreaterEqual ∷ token.EqualEqual ∷ token.NotEqual ∷ token.EqualEqualEqual ∷ token.NotEqualEqual ∷ token.Plus ∷ token.Minus ∷ token.Star ∷ token.Slash ∷ token.Percent ∷ token.StarStar ∷ token.PlusPlus ∷ token.MinusMinus ∷ token.LessLess ∷ token.GreaterGreater ∷ token.GreaterGreaterGreater ∷ token.And ∷ token.Or ∷ token.Caret ∷ token.Not ∷ token.Tilde ∷ token.AndAnd ∷ token.OrOr ∷ token.QuestionQuestion ∷ token.Question ∷ token.QuestionDot ∷ token.Colon ∷ token.Equal ∷ token.PlusEqual ∷ token.MinusEqual ∷ token.StarEqual ∷ token.SlashEqual ∷ token.PercentEqual ∷ token.StarStarEqual ∷ token.LessLessEqual ∷ token.GreaterGreaterEqual ∷ token.GreaterGreaterGreaterEqual ∷ token.AndEqual ∷ token.OrEqual ∷ token.CaretEqual ∷ token.AndAndEqual ∷ token.OrOrEqual ∷ token.QuestionQuestionEqual ∷ token.Arrow ∷ token.Dot ∷ token.Ellipsis ∷ []

-- the kind that stands where the text does
abbrev named : List Text → List TokenKind → Text → TokenKind
named [] ks t = token.End
named (u ∷ us) [] t = token.End
named (u ∷ us) (k ∷ ks) t = cond (same t u) k (named us ks t)

named_back : (k : TokenKind) → is_punctuator k ≡ true → named punctuators kinds (spelling k) ≡ k
named_back token.LeftBrace h = refl
named_back token.RightBrace h = refl
named_back token.LeftParen h = refl
named_back token.RightParen h = refl
named_back token.LeftBracket h = refl
named_back token.RightBracket h = refl
named_back token.Semicolon h = refl
named_back token.Comma h = refl
named_back token.Less h = refl
named_back token.Greater h = refl
named_back token.LessEqual h = refl
named_back token.GreaterEqual h = refl
named_back token.EqualEqual h = refl
named_back token.NotEqual h = refl
named_back token.EqualEqualEqual h = refl
named_back token.NotEqualEqual h = refl
named_back token.Plus h = refl
named_back token.Minus h = refl
named_back token.Star h = refl
named_back token.Slash h = refl
named_back token.Percent h = refl
named_back token.StarStar h = refl
named_back token.PlusPlus h = refl
named_back token.MinusMinus h = refl
named_back token.LessLess h = refl
named_back token.GreaterGreater h = refl
named_back token.GreaterGreaterGreater h = refl
named_back token.And h = refl
named_back token.Or h = refl
named_back token.Caret h = refl
named_back token.Not h = refl
named_back token.Tilde h = refl
named_back token.AndAnd h = refl
named_back token.OrOr h = refl
named_back token.QuestionQuestion h = refl
named_back token.Question h = refl
named_back token.QuestionDot h = refl
named_back token.Colon h = refl
named_back token.Equal h = refl
named_back token.PlusEqual h = refl
named_back token.MinusEqual h = refl
named_back token.StarEqual h = refl
named_back token.SlashEqual h = refl
named_back token.PercentEqual h = refl
named_back token.StarStarEqual h = refl
named_back token.LessLessEqual h = refl
named_back token.GreaterGreaterEqual h = refl
named_back token.GreaterGreaterGreaterEqual h = refl
named_back token.AndEqual h = refl
named_back token.OrEqual h = refl
named_back token.CaretEqual h = refl
named_back token.AndAndEqual h = refl
named_back token.OrOrEqual h = refl
named_back token.QuestionQuestionEqual h = refl
named_back token.Arrow h = refl
named_back token.Dot h = refl
named_back token.Ellipsis h = refl
named_back token.IdentifierName h = absurd (false≢true h)
named_back token.NumericLiteral h = absurd (false≢true h)
named_back token.BigIntLiteral h = absurd (false≢true h)
named_back token.StringLiteral h = absurd (false≢true h)
named_back token.RegExpLiteral h = absurd (false≢true h)
named_back token.NoSubstitution h = absurd (false≢true h)
named_back token.TemplateHead h = absurd (false≢true h)
named_back token.TemplateMiddle h = absurd (false≢true h)
named_back token.TemplateTail h = absurd (false≢true h)
named_back token.JsxName h = absurd (false≢true h)
named_back token.JsxString h = absurd (false≢true h)
named_back token.JsxText h = absurd (false≢true h)
named_back token.End h = absurd (false≢true h)

pub one_kind : (j k : TokenKind) → is_punctuator j ≡ true → is_punctuator k ≡ true → spelling j ≡ spelling k → j ≡ k
one_kind j k h i e = sym (named_back j h) ∙ (ap (named punctuators kinds) e ∙ named_back k i)

same_self : (t : Text) → same t t ≡ true
same_self [] = refl
same_self (c ∷ t) = and_from (nat_eq c c) (same t t) (eq-eqb c c refl) (same_self t)

-- a token of a punctuator's kind is that punctuator, and one of another kind isn't

pub is_mark : (x : Lexeme) (k : TokenKind) → kind_of k ≡ x.kind → (is_punctuator k ≡ true → x.raw ≡ spelling k) → is_punctuator k ≡ true → is_token x Punctuator (spelling k) ≡ true
is_mark x k e s h =
    and_from (is_kind x.kind Punctuator) (same x.raw (spelling k)) (ap (λ j. is_kind j Punctuator) (sym e) ∙ h) (ap (λ t. same t (spelling k)) (s h) ∙ same_self (spelling k))

pub is_no_mark : (x : Lexeme) (j k : TokenKind) → kind_of j ≡ x.kind → (is_punctuator j ≡ true → x.raw ≡ spelling j) → is_punctuator k ≡ true → (j ≡ k → ⊥) → is_token x Punctuator (spelling k) ≡ false
is_no_mark x j k e s h n = false_from_ne_true (is_token x Punctuator (spelling k)) (λ t.
    let p = and_parts (is_kind x.kind Punctuator) (same x.raw (spelling k)) t in
    let i : is_punctuator j ≡ true = ap (λ z. is_kind z Punctuator) e ∙ p.0 in
    n (one_kind j k i h (sym (s i) ∙ same_is x.raw (spelling k) p.1)))
