-- A text, its first character and the text behind that.
use Rattle.std.specs.Prelude.{◌≡◌, ◌++◌, ◌∷◌, ◌<◌, ℕ, List, length, encode_utf8}
use Rattle.std.specs.Str.{chars, IsUtf8}
use Rattle.jsx_lex.specs.Places.{EndsWith}

pub record Follows (s : List ℕ) (c : ℕ) (rest : List ℕ) : Type 0 where
  pub chars_are : chars s ≡ c ∷ chars rest
  pub bytes_are : s ≡ encode_utf8 c ++ rest
  pub shorter : length rest < length s

-- a text's end that is a text
pub record IsTail (s rest : List ℕ) : Type 0 where
  pub ends : EndsWith s rest
  pub text : IsUtf8 rest
