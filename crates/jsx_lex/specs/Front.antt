-- The token at the front of a text, as the code finds it.
use Rattle.std.specs.Prelude.{◌≡◌, ◌↔◌, ◌++◌, ℕ, IsTrue, [], ◌∷◌, Bool, true, false, ◌&&◌, ◌||◌, codes}
use Rattle.jsx_base.specs.Token.{Text, Mode, Operand, Operator, Lexeme, NoToken, NoSubstitution, TemplateHead, Punctuator, State, Dead, Done, InName, InString, InPiece, AtRegExp, begins, is_kind, is_one_of, same, at_front}
use Rattle.jsx_lex.specs.declared.token.TokenKind.{TokenKind}
use Rattle.jsx_lex.specs.declared.token.TokenKind.TheVariants as token
use Rattle.jsx_lex.specs.declared.front.Start.{Start}
use Rattle.jsx_lex.specs.declared.front.Start.TheVariants as start
use Rattle.jsx_lex.specs.Automaton.{number_state}
use Rattle.jsx_lex.specs.Kinds.{kind_of, is_punctuator, spelling}

-- the token is of the code's kind, and leaves the rest behind it
pub record IsFound (x : Lexeme) (k : TokenKind) (rest : Text) : Type 0 where
  pub kind_is : x.kind ≡ kind_of k
  pub rest_is : x.rest ≡ rest
  pub spelled : is_punctuator k ≡ true → x.raw ≡ spelling k
  pub is_some : is_kind (kind_of k) NoToken ≡ false

-- code where an expression may begin, or elsewhere
abbrev pub code_mode : Bool → Mode
code_mode true = Operand
code_mode false = Operator

-- the state behind the character that begins it
abbrev pub start_state : ℕ → Start → State
start_state c start.Name = InName
start_state c (start.Number n) = number_state n
start_state c start.String = InString c
start_state c start.Template = InPiece NoSubstitution TemplateHead
start_state c start.RegExp = AtRegExp
start_state c start.Less = Done Punctuator
start_state c start.Mark = Dead

abbrev pub is_html : Bool → ℕ → Text → Bool
is_html f c text = begins (codes "<!--") (c ∷ text) || (f && begins (codes "-->") (c ∷ text))

-- a punctuator of this one character
pub record IsTagMark (c : ℕ) (k : TokenKind) : Type 0 where
  pub spelling_is : spelling k ≡ c ∷ []
  pub is_mark : is_punctuator k ≡ true
  pub is_one : is_one_of c (codes "<>/=:.{") ≡ true

-- the token that comes next, or the end of the text
pub record IsNext (m : Mode) (f : Bool) (text : Text) (k : TokenKind) (rest : Text) : Type 0 where
  pub kind_is : kind_of k ≡ (at_front m f text).kind
  pub rest_is : rest ≡ (at_front m f text).rest
  pub spelled : IsTrue (is_punctuator k) → (at_front m f text).raw ≡ spelling k
  pub raw_is : text ≡ (at_front m f text).raw ++ rest
  pub end_is : (k ≡ token.End) ↔ IsTrue (same text [])

pub record IsNotNext (m : Mode) (f : Bool) (text : Text) : Type 0 where
  pub none : (at_front m f text).kind ≡ NoToken
  pub more : same text [] ≡ false
