-- Where a piece of a text stands, in bytes.
use Rattle.std.specs.Prelude.{◌≡◌, ◌++◌, ◌-◌, ℕ, List, length, take}

-- what a text has before the end that is left of it
abbrev pub front_of : List ℕ → List ℕ → List ℕ
front_of s rest = take (length s - length rest) s

-- the text ends with the other
pub record EndsWith (s rest : List ℕ) : Type 0 where
  pub is : s ≡ front_of s rest ++ rest

-- the piece stands in the text, that many bytes from its begin
pub record StandsAt (text piece : List ℕ) (at : ℕ) : Type 0 where
  pub front : List ℕ
  pub behind : List ℕ
  pub is : text ≡ front ++ (piece ++ behind)
  pub place : length front ≡ at
