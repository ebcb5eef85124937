-- Where the lexer stands, and the tokens that the parser asks it for.
use Rattle.std.specs.Prelude.{ℕ, codes, length}
use Rattle.jsx_base.specs.Token.{Text, Operand, Operator, Piece as PieceMode, Tag, TokenKind, IdentifierName, Punctuator, NumericLiteral, BigIntLiteral, StringLiteral, RegExpLiteral, NoSubstitution, TemplateHead, TemplateMiddle, TemplateTail, JsxName}
use Rattle.jsx_tree.specs.Signs.{Sign, Tok, Ending, AfterExpr, AfterBlock, AfterWord, AfterList, AfterBinding, AfterKey, AfterDo}
use Rattle.jsx_tree.specs.Spelling.{mode_of}
use Rattle.jsx_tree.specs.Reading.{Place, At}
use Rattle.jsx_token.specs.WordTexts.{word_text}
use Rattle.jsx_token.specs.declared.lexer.Ending as code
use Rattle.jsx_token.specs.declared.lexer.Ending.TheVariants as ending
use Rattle.jsx_token.specs.declared.lexer.Fixed.{Fixed}
use Rattle.jsx_token.specs.declared.lexer.Fixed.TheVariants as fixed
use Rattle.jsx_token.specs.declared.lexer.Leaf.{Leaf}
use Rattle.jsx_token.specs.declared.lexer.Leaf.TheVariants as leaf
use Rattle.jsx_token.specs.declared.lexer.Piece.{Piece}
use Rattle.jsx_token.specs.declared.lexer.Piece.TheVariants as piece

-- behind a token, none at the text's begin, with what a missing semicolon would stand behind, before the rest of the text; the place at which the whole text ends
pub record Here : Type 0 where
  pub last : Text
  pub ending : Ending
  pub rest : Text
  pub end : ℕ

abbrev pub place_of : Here → Place
place_of h = At h.last h.ending h.rest

abbrev pub ending_of : code.Ending → Ending
ending_of ending.Expr = AfterExpr
ending_of ending.Binding = AfterBinding
ending_of ending.Word = AfterWord
ending_of ending.List = AfterList
ending_of ending.Key = AfterKey
ending_of ending.Do = AfterDo
ending_of ending.Block = AfterBlock

-- how many characters are left
abbrev pub left : Here → ℕ
left h = length h.rest

abbrev pub sign_of : Fixed → Sign
sign_of (fixed.Word w) = Tok Operator IdentifierName (word_text w)
sign_of fixed.Equals = Tok Operator Punctuator (codes "=")
sign_of fixed.Semicolon = Tok Operator Punctuator (codes ";")
sign_of fixed.Open = Tok Operator Punctuator (codes "(")
sign_of fixed.Close = Tok Operator Punctuator (codes ")")
sign_of fixed.OpenBracket = Tok Operator Punctuator (codes "[")
sign_of fixed.CloseBracket = Tok Operator Punctuator (codes "]")
sign_of fixed.OpenBrace = Tok Operator Punctuator (codes "{")
sign_of fixed.CloseBrace = Tok Operator Punctuator (codes "}")
sign_of fixed.Comma = Tok Operator Punctuator (codes ",")
sign_of fixed.Colon = Tok Operator Punctuator (codes ":")
sign_of fixed.Dot = Tok Operator Punctuator (codes ".")
sign_of fixed.Dots = Tok Operator Punctuator (codes "...")
sign_of fixed.QuestionDot = Tok Operator Punctuator (codes "?.")
sign_of fixed.Star = Tok Operator Punctuator (codes "*")
sign_of fixed.Arrow = Tok Operator Punctuator (codes "=>")
sign_of fixed.Less = Tok Operand Punctuator (codes "<")
sign_of fixed.TagSlash = Tok Tag Punctuator (codes "/")
sign_of fixed.TagGreater = Tok Tag Punctuator (codes ">")

abbrev pub leaf_kind : Leaf → TokenKind
leaf_kind leaf.Name = IdentifierName
leaf_kind leaf.Num = NumericLiteral
leaf_kind leaf.BigInt = BigIntLiteral
leaf_kind leaf.Str = StringLiteral
leaf_kind leaf.RegExp = RegExpLiteral
leaf_kind leaf.NoSubstitution = NoSubstitution
leaf_kind leaf.TemplateHead = TemplateHead
leaf_kind leaf.JsxName = JsxName

abbrev pub leaf_sign : Leaf → Text → Sign
leaf_sign l t = Tok (mode_of (leaf_kind l)) (leaf_kind l) t

-- a piece of a template behind a `}`
abbrev pub piece_kind : Piece → TokenKind
piece_kind piece.Middle = TemplateMiddle
piece_kind piece.Tail = TemplateTail

abbrev pub piece_sign : Piece → Text → Sign
piece_sign p t = Tok PieceMode (piece_kind p) t
