-- Walking over a text, character by character.
use Rattle.std.specs.Prelude.{◌≡◌, ℕ, ◌-◌, ◌<◌, ◌≤◌, List, ◌∷◌, length}
use Rattle.std.specs.Str.{IsUtf8, chars}
use Rattle.std.specs.Char.{len_utf8}
use Rattle.jsx_base.specs.Lines.{front}

-- a text begins with a character that takes at most so many bytes
pub record BeginsWith (bs : List ℕ) (left c : ℕ) (more : List ℕ) : Type 0 where
  pub fits : len_utf8 c ≤ left
  pub front_is : front (chars bs) left ≡ c ∷ front (chars more) (left - len_utf8 c)
  pub shorter : length more < length bs
  pub more_text : IsUtf8 more
