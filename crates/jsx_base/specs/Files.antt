-- The files of a source map, and places in them.
use Rattle.std.specs.Prelude.{ℕ, ◌+◌, ◌-◌, ◌<◌, Bool, ◌&&◌, List, Option, nat_le}
use Rattle.std.specs.List.{AllPairs, find}
use Rattle.std.specs.Option.{option_map}
use Rattle.jsx_base.specs.FileName.{Name}
use Rattle.jsx_base.specs.Lines.{size, front, line_of, col_of, display_col_of}

-- a file: its name, its characters, and the place of its first byte
pub record File : Type 0 where
  pub name : Name
  pub text : List ℕ
  pub start : ℕ

-- the place behind its last byte
abbrev pub end_of : File → ℕ
end_of file = file.start + size file.text

-- each file begins after the end of the one before
abbrev pub InOrder : List File → Type 0
InOrder files = AllPairs (λ file later. end_of file < later.start) files

-- whether a place is in a file. The end of the file is.
abbrev pub holds : ℕ → File → Bool
holds pos file = nat_le file.start pos && nat_le pos (end_of file)

-- the file of a place
abbrev pub file_at : List File → ℕ → Option File
file_at files pos = find (holds pos) files

-- what stands in the file before a place. A place inside a character counts as that character's start.
abbrev pub front_at : File → ℕ → List ℕ
front_at file pos = front file.text (pos - file.start)

-- a place in a file: its line from 1, and its columns from 0, by characters and by display columns
pub record Place : Type 0 where
  pub file : File
  pub line : ℕ
  pub col : ℕ
  pub col_display : ℕ

abbrev pub place_in : ℕ → File → Place
place_in pos file = record {
  file = file;
  line = line_of (front_at file pos);
  col = col_of (front_at file pos);
  col_display = display_col_of (front_at file pos);
}

abbrev pub place_at : List File → ℕ → Option Place
place_at files pos = option_map (place_in pos) (file_at files pos)
