-- What the lexer finds where it stands.
use Rattle.std.specs.Prelude.{◌≡◌, ◌↔◌, ℕ, List, Option, Bool, false, IsTrue, IsFalse, [], ◌&&◌}
use Rattle.std.specs.Option.{ForSome}
use Rattle.std.specs.Str.{chars}
use Rattle.jsx_base.specs.Token.{Text, Mode, Lexeme, NoToken, is_end, breaks, same, skips, token, is_kind, TokenKind as Kind}
use Rattle.jsx_lex.specs.declared.lexer.Lexer.{Lexer as Tokens}
use Rattle.jsx_lex.specs.declared.token.Token.{Token}
use Rattle.jsx_lex.specs.declared.token.TokenKind.TheVariants as token_kind
use Rattle.jsx_lex.specs.Kinds.{kind_of, is_punctuator, mode_of, spelling}
use Rattle.jsx_lex.specs.Stand.{rest_of}
use Rattle.jsx_token.specs.Here.{Here, ending_of}
use Rattle.jsx_token.specs.declared.lexer.Ending.{Ending}
use Rattle.jsx_token.specs.declared.seen.Seen.{Seen}

-- behind the text of a token, with what a missing semicolon would stand behind, where a lexer stands, in a text that ends at a place
abbrev pub here_of : List ℕ → Ending → Tokens → ℕ → Here
here_of last e l n = record { last = chars last; ending = ending_of e; rest = rest_of l; end = n }

-- the token that comes next in a mode
abbrev pub next_token : Mode → Here → Lexeme
next_token m h = token m (same h.last []) h.rest

-- The token in a mode that skips a gap, behind which the other lexer stands.
pub record IsNext (m : Mode) (h : Here) (t : Token) (behind : Tokens) : Type 0 where
  pub kind : kind_of t.kind ≡ (next_token m h).kind
  pub raw : chars t.raw.now ≡ (next_token m h).raw
  pub spelled : IsTrue (is_punctuator t.kind) → chars t.raw.now ≡ spelling t.kind
  pub rest : rest_of behind ≡ (next_token m h).rest
  pub line : IsTrue (skips m) → t.new_line ≡ breaks h.rest
  pub end : IsTrue (skips m) → ((t.kind ≡ token_kind.End) ↔ IsTrue (is_end h.rest))
  pub read : behind.is_first ≡ false
  pub unsettled : behind.is_on_new_line ≡ false

-- what was looked at is what comes next
abbrev pub IsSeen : Here → Option Seen → Type 0
IsSeen h seen = ForSome seen (λ s. IsNext (mode_of s.mode) h s.token s.behind)

-- there is none
pub record NoNext (m : Mode) (h : Here) : Type 0 where
  pub none : (next_token m h).kind ≡ NoToken
  pub more : IsTrue (skips m) → IsFalse (is_end h.rest)

-- the token is of this kind and has this text
abbrev pub is_it : Token → Kind → Text → Bool
is_it t k text = is_kind (kind_of t.kind) k && same (chars t.raw.now) text

-- what was looked at is also what comes next in this mode, wherever it was looked at
pub record Serves (s : Seen) (m : Mode) : Type 0 where
  pub on : (h : Here) → IsNext (mode_of s.mode) h s.token s.behind → IsNext m h s.token s.behind
