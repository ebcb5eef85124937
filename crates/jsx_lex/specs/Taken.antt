-- What a token takes from a state of its automaton on.
use Rattle.std.specs.Prelude.{◌≡◌, false}
use Rattle.jsx_base.specs.Token.{Text, State, TokenKind as Kind, NoToken, left, last_state, accepts, ended, is_kind, no_token}
use Rattle.jsx_lex.specs.declared.token.TokenKind.{TokenKind}
use Rattle.jsx_lex.specs.Kinds.{kind_of, is_punctuator}

-- from the first text on, the state leads to the second, and is then still the same
pub record Keeps (s : State) (text rest : Text) : Type 0 where
  pub left_is : left s text ≡ left s rest
  pub last_is : last_state s text ≡ last_state s rest

-- the definitions' kind is that of a token with a text of its own
pub record IsLiteral (j : Kind) (k : TokenKind) : Type 0 where
  pub kind_is : j ≡ kind_of k
  pub is_some : is_kind (kind_of k) NoToken ≡ false
  pub no_mark : is_punctuator k ≡ false

-- a token of the kind, behind which the rest is left, and what it ends before doesn't forbid it
pub record IsTaken (s : State) (text : Text) (k : TokenKind) (rest : Text) : Type 0 where
  pub literal : IsLiteral (accepts (last_state s text)) k
  pub rest_is : left s text ≡ rest
  pub whole : (raw : Text) → ended (kind_of k) raw rest ≡ record { kind = kind_of k; raw = raw; rest = rest }

pub record NoneTaken (s : State) (text : Text) : Type 0 where
  pub none : (raw : Text) → ended (accepts (last_state s text)) raw (left s text) ≡ no_token (left s text)
