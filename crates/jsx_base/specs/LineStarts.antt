-- Where lines begin.
use Rattle.std.specs.Prelude.{◌≡◌, ℕ, ◌+◌, List, [], ◌∷◌, length}
use Rattle.std.specs.Str.{IsUtf8, chars}
use Rattle.jsx_base.specs.Lines.{lines, size}

-- the numbers of bytes before each of some lines, of which the first begins at `at`
abbrev pub starts : ℕ → List (List ℕ) → List ℕ
starts at [] = []
starts at (line ∷ more) = at ∷ starts (at + size line + 1) more

-- a text is a line that ends in LF, and the rest
pub record Split (bs line rest : List ℕ) : Type 0 where
  pub lines_are : lines (chars bs) ≡ chars line ∷ lines (chars rest)
  pub bytes : size (chars line) + 1 + length rest ≡ length bs
  pub width : size (chars line) ≡ length line
  pub text : IsUtf8 rest
