-- What a statement begins with that begins as no expression does.
use Rattle.std.specs.Prelude.{◌≡◌, ℕ, List, [], ◌∷◌, Bool, true, false, cond, Option, Some, None}
use Rattle.std.specs.Str.{bytes_eq}
use Rattle.jsx_base.specs.Token.{Text, same}
use Rattle.jsx_tree.specs.Signs.{Sign}
use Rattle.jsx_tree.specs.Kinds.{Block, Var, Empty, If, Do, While, For, ForIn, ForOf, Switch, Continue, Break, Return, Throw, Debugger, FunctionDecl, ClassDecl, Kind, statement, Try}
use Rattle.jsx_tree.specs.View.{word_of}
use Rattle.jsx_tree.specs.Reading.{Place, Lost, forth}
use Rattle.jsx_tree.specs.declared.text.DeclareWord as code
use Rattle.jsx_tree.specs.declared.text.DeclareWord.TheVariants as declare_word
use Rattle.jsx_lex.specs.declared.token.Token.{Token}
use Rattle.jsx_token.specs.declared.heading.Heading.{Heading}
use Rattle.jsx_token.specs.declared.heading.Heading.TheVariants as heading
use Rattle.jsx_token.specs.declared.lexer.Fixed.{Fixed}
use Rattle.jsx_token.specs.declared.lexer.Fixed.TheVariants as fixed
use Rattle.jsx_token.specs.declared.word.Word.{Word}
use Rattle.jsx_token.specs.declared.word.Word.TheVariants as word
use Rattle.jsx_token.specs.Growths.{opening_sign}
use Rattle.jsx_token.specs.Seen.{is_it}
use Rattle.jsx_token.specs.Spelled.{fixed_kind, fixed_text}

abbrev pub heading_kind : Heading → Kind
heading_kind heading.Empty = statement Empty
heading_kind heading.Block = statement Block
heading_kind (heading.Var w) = statement (Var (word_of w))
heading_kind heading.If = statement If
heading_kind heading.Do = statement Do
heading_kind heading.While = statement While
heading_kind heading.For = statement For
heading_kind heading.Switch = statement Switch
heading_kind heading.Continue = statement Continue
heading_kind heading.Break = statement Break
heading_kind heading.Return = statement Return
heading_kind heading.Throw = statement Throw
heading_kind heading.Try = statement Try
heading_kind heading.Debugger = statement Debugger
heading_kind heading.Function = statement FunctionDecl
heading_kind heading.Class = statement ClassDecl

-- what it begins: `for` begins three kinds
pub data Begins : Heading → Kind → Type 0 where
  own : (h : Heading) → Begins h (heading_kind h)
  over_keys : Begins heading.For (statement ForIn)
  over_items : Begins heading.For (statement ForOf)

-- the sign with which its row begins
abbrev pub heading_sign : Heading → Sign
heading_sign h = opening_sign (heading_kind h)

-- a declaration that stands in lists alone
abbrev pub is_lexical : Heading → Bool
is_lexical (heading.Var declare_word.Let) = true
is_lexical (heading.Var declare_word.Const) = true
is_lexical heading.Function = true
is_lexical heading.Class = true
is_lexical h = false

abbrev pub declaring : code.DeclareWord → Word
declaring declare_word.Var = word.Var
declaring declare_word.Let = word.Let
declaring declare_word.Const = word.Const

-- the token that it is
abbrev pub fixed_of : Heading → Fixed
fixed_of heading.Empty = fixed.Semicolon
fixed_of heading.Block = fixed.OpenBrace
fixed_of (heading.Var w) = fixed.Word (declaring w)
fixed_of heading.If = fixed.Word word.If
fixed_of heading.Do = fixed.Word word.Do
fixed_of heading.While = fixed.Word word.While
fixed_of heading.For = fixed.Word word.For
fixed_of heading.Switch = fixed.Word word.Switch
fixed_of heading.Continue = fixed.Word word.Continue
fixed_of heading.Break = fixed.Word word.Break
fixed_of heading.Return = fixed.Word word.Return
fixed_of heading.Throw = fixed.Word word.Throw
fixed_of heading.Try = fixed.Word word.Try
fixed_of heading.Debugger = fixed.Word word.Debugger
fixed_of heading.Function = fixed.Word word.Function
fixed_of heading.Class = fixed.Word word.Class

abbrev pub is_heading : Token → Heading → Bool
is_heading t h = is_it t (fixed_kind (fixed_of h)) (fixed_text (fixed_of h))

pub record NoneIsIt (t : Token) : Type 0 where
  pub on : (h : Heading) → is_heading t h ≡ false

-- those that are words, and the first of some that a text is, and that bytes are
abbrev pub words : List Heading
words = heading.Var declare_word.Var ∷ heading.Var declare_word.Let ∷ heading.Var declare_word.Const ∷ heading.If ∷ heading.Do ∷ heading.While ∷ heading.For ∷ heading.Switch ∷ heading.Continue ∷ heading.Break ∷ heading.Throw ∷ heading.Try ∷ heading.Debugger ∷ heading.Return ∷ heading.Function ∷ heading.Class ∷ []

abbrev pub first_word : List Heading → Text → Option Heading
first_word [] t = None
first_word (h ∷ hs) t = cond (same t (fixed_text (fixed_of h))) (Some h) (first_word hs t)

abbrev pub first_bytes : List Heading → List ℕ → Option Heading
first_bytes [] bs = None
first_bytes (h ∷ hs) bs = cond (bytes_eq bs (fixed_text (fixed_of h))) (Some h) (first_bytes hs bs)

-- none of them stands there
pub record NoHeading (x : Place) : Type 0 where
  pub on : (h : Heading) → forth (heading_sign h) x ≡ Lost
