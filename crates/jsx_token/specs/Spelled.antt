-- The tokens with one spelling.
use Rattle.std.specs.Prelude.{◌≡◌, true, codes}
use Rattle.jsx_base.specs.Token.{Text, Mode, Operand, Operator, Tag, TokenKind, IdentifierName, Punctuator}
use Rattle.jsx_token.specs.declared.lexer.Fixed.{Fixed}
use Rattle.jsx_token.specs.declared.lexer.Fixed.TheVariants as fixed
use Rattle.jsx_token.specs.declared.lexer.Leaf.{Leaf}
use Rattle.jsx_lex.specs.declared.token.TokenKind.{TokenKind as MarkKind}
use Rattle.jsx_lex.specs.Kinds.{is_punctuator, spelling}
use Rattle.jsx_tree.specs.Spelling.{mode_of}
use Rattle.jsx_token.specs.Here.{leaf_kind}
use Rattle.jsx_token.specs.WordTexts.{word_text}

abbrev pub fixed_mode : Fixed → Mode
fixed_mode (fixed.Word w) = Operator
fixed_mode fixed.Equals = Operator
fixed_mode fixed.Semicolon = Operator
fixed_mode fixed.Open = Operator
fixed_mode fixed.Close = Operator
fixed_mode fixed.OpenBracket = Operator
fixed_mode fixed.CloseBracket = Operator
fixed_mode fixed.OpenBrace = Operator
fixed_mode fixed.CloseBrace = Operator
fixed_mode fixed.Comma = Operator
fixed_mode fixed.Colon = Operator
fixed_mode fixed.Dot = Operator
fixed_mode fixed.Dots = Operator
fixed_mode fixed.QuestionDot = Operator
fixed_mode fixed.Star = Operator
fixed_mode fixed.Arrow = Operator
fixed_mode fixed.Less = Operand
fixed_mode fixed.TagSlash = Tag
fixed_mode fixed.TagGreater = Tag

abbrev pub fixed_kind : Fixed → TokenKind
fixed_kind (fixed.Word w) = IdentifierName
fixed_kind _ = Punctuator

abbrev pub fixed_text : Fixed → Text
fixed_text (fixed.Word w) = word_text w
fixed_text fixed.Equals = codes "="
fixed_text fixed.Semicolon = codes ";"
fixed_text fixed.Open = codes "("
fixed_text fixed.Close = codes ")"
fixed_text fixed.OpenBracket = codes "["
fixed_text fixed.CloseBracket = codes "]"
fixed_text fixed.OpenBrace = codes "{"
fixed_text fixed.CloseBrace = codes "}"
fixed_text fixed.Comma = codes ","
fixed_text fixed.Colon = codes ":"
fixed_text fixed.Dot = codes "."
fixed_text fixed.Dots = codes "..."
fixed_text fixed.QuestionDot = codes "?."
fixed_text fixed.Star = codes "*"
fixed_text fixed.Arrow = codes "=>"
fixed_text fixed.Less = codes "<"
fixed_text fixed.TagSlash = codes "/"
fixed_text fixed.TagGreater = codes ">"

abbrev pub leaf_mode : Leaf → Mode
leaf_mode l = mode_of (leaf_kind l)

-- the punctuator that the token is
pub record IsMarkOf (k : MarkKind) (f : Fixed) : Type 0 where
  pub mark : is_punctuator k ≡ true
  pub text : spelling k ≡ fixed_text f
  pub kind : fixed_kind f ≡ Punctuator
