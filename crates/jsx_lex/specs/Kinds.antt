-- The code's modes and kinds of token, and how each punctuator is spelled.
use Rattle.std.specs.Prelude.{[], Bool, codes}
use Rattle.jsx_base.specs.Token.{Text, is_kind, Punctuator, NoToken, Mode as Reads, TokenKind as Kind}
use Rattle.jsx_base.specs.Token as base
use Rattle.jsx_lex.specs.declared.token.Mode.{Mode}
use Rattle.jsx_lex.specs.declared.token.Mode.TheVariants as mode
use Rattle.jsx_lex.specs.declared.token.TokenKind.{TokenKind}
use Rattle.jsx_lex.specs.declared.token.TokenKind.TheVariants as token

abbrev pub mode_of : Mode → Reads
mode_of mode.Operand = base.Operand
mode_of mode.Operator = base.Operator
mode_of mode.Piece = base.Piece
mode_of mode.Tag = base.Tag
mode_of mode.Children = base.Children

abbrev pub kind_of : TokenKind → Kind
kind_of token.IdentifierName = base.IdentifierName
kind_of token.NumericLiteral = base.NumericLiteral
kind_of token.BigIntLiteral = base.BigIntLiteral
kind_of token.StringLiteral = base.StringLiteral
kind_of token.RegExpLiteral = base.RegExpLiteral
kind_of token.NoSubstitution = base.NoSubstitution
kind_of token.TemplateHead = base.TemplateHead
kind_of token.TemplateMiddle = base.TemplateMiddle
kind_of token.TemplateTail = base.TemplateTail
kind_of token.JsxName = base.JsxName
kind_of token.JsxString = base.JsxString
kind_of token.JsxText = base.JsxText
kind_of token.End = NoToken
kind_of _ = Punctuator

abbrev pub is_punctuator : TokenKind → Bool
is_punctuator k = is_kind (kind_of k) Punctuator

-- a punctuator's characters
abbrev pub spelling : TokenKind → Text
spelling token.LeftBrace = codes "{"
spelling token.RightBrace = codes "}"
spelling token.LeftParen = codes "("
spelling token.RightParen = codes ")"
spelling token.LeftBracket = codes "["
spelling token.RightBracket = codes "]"
spelling token.Semicolon = codes ";"
spelling token.Comma = codes ","
spelling token.Less = codes "<"
spelling token.Greater = codes ">"
spelling token.LessEqual = codes "<="
spelling token.GreaterEqual = codes ">="
spelling token.EqualEqual = codes "=="
spelling token.NotEqual = codes "!="
spelling token.EqualEqualEqual = codes "==="
spelling token.NotEqualEqual = codes "!=="
spelling token.Plus = codes "+"
spelling token.Minus = codes "-"
spelling token.Star = codes "*"
spelling token.Slash = codes "/"
spelling token.Percent = codes "%"
spelling token.StarStar = codes "**"
spelling token.PlusPlus = codes "++"
spelling token.MinusMinus = codes "--"
spelling token.LessLess = codes "<<"
spelling token.GreaterGreater = codes ">>"
spelling token.GreaterGreaterGreater = codes ">>>"
spelling token.And = codes "&"
spelling token.Or = codes "|"
spelling token.Caret = codes "^"
spelling token.Not = codes "!"
spelling token.Tilde = codes "~"
spelling token.AndAnd = codes "&&"
spelling token.OrOr = codes "||"
spelling token.QuestionQuestion = codes "??"
spelling token.Question = codes "?"
spelling token.QuestionDot = codes "?."
spelling token.Colon = codes ":"
spelling token.Equal = codes "="
spelling token.PlusEqual = codes "+="
spelling token.MinusEqual = codes "-="
spelling token.StarEqual = codes "*="
spelling token.SlashEqual = codes "/="
spelling token.PercentEqual = codes "%="
spelling token.StarStarEqual = codes "**="
spelling token.LessLessEqual = codes "<<="
spelling token.GreaterGreaterEqual = codes ">>="
spelling token.GreaterGreaterGreaterEqual = codes ">>>="
spelling token.AndEqual = codes "&="
spelling token.OrEqual = codes "|="
spelling token.CaretEqual = codes "^="
spelling token.AndAndEqual = codes "&&="
spelling token.OrOrEqual = codes "||="
spelling token.QuestionQuestionEqual = codes "??="
spelling token.Arrow = codes "=>"
spelling token.Dot = codes "."
spelling token.Ellipsis = codes "..."
spelling _ = []
