-- Lines and columns of a text, which is a list of characters. A line ends at LF alone.
use Rattle.std.specs.Prelude.{ℕ, ◌-◌, List, [], ◌∷◌, cond, nat_eq, nat_le, length, false}
use Rattle.std.specs.Str.{encode_utf8_all}
use Rattle.std.specs.Char.{len_utf8}
use Rattle.std.specs.List.{sum_by}
use Rattle.std.specs.Option.{unwrap_or}
use Rattle.unicode_width.specs.Width.{char_width}

-- a character before the first of some lines
abbrev pub before_first : ℕ → List (List ℕ) → List (List ℕ)
before_first c [] = (c ∷ []) ∷ []
before_first c (line ∷ more) = (c ∷ line) ∷ more

-- the lines of a text, without the LF behind each but the last
abbrev pub lines : List ℕ → List (List ℕ)
lines [] = [] ∷ []
lines (c ∷ text) = cond (nat_eq c 10) ([] ∷ lines text) (before_first c (lines text))

-- the last of some lines
abbrev pub last_line : List (List ℕ) → List ℕ
last_line [] = []
last_line (line ∷ []) = line
last_line (line ∷ next ∷ more) = last_line (next ∷ more)

-- how many bytes a text takes
abbrev pub size : List ℕ → ℕ
size text = length (encode_utf8_all text)

-- the longest front of whole characters that takes at most n bytes
abbrev pub front : List ℕ → ℕ → List ℕ
front [] n = []
front (c ∷ text) n = cond (nat_le (len_utf8 c) n) (c ∷ front text (n - len_utf8 c)) []

-- the display columns of a character: four of a tab, and none where it has no width
abbrev pub columns_of : ℕ → ℕ
columns_of c = cond (nat_eq c 9) 4 (unwrap_or (char_width false c) 0)

-- the number of the line in which a front ends, from 1
abbrev pub line_of : List ℕ → ℕ
line_of front = length (lines front)

-- the characters that stand in that line before the front's end
abbrev pub col_of : List ℕ → ℕ
col_of front = length (last_line (lines front))

-- the display columns of these characters
abbrev pub display_col_of : List ℕ → ℕ
display_col_of front = sum_by columns_of (last_line (lines front))
