-- Spans in the files of a source map.
use Rattle.std.specs.Prelude.{◌≡◌, ℕ, ◌+◌, ◌-◌, List, [], ◌∷◌, ◌++◌, codes, decimal, Bool, Option, Some, None, cond, ◌&&◌, nat_eq, nat_le, min, max, take, drop, length, map, slice_get}
use Rattle.std.specs.List.{range_with_len}
use Rattle.std.specs.Option.{option_map, unwrap_or}
use Rattle.jsx_base.specs.declared.place.Span.{Span}
use Rattle.jsx_base.specs.FileName.{Name, RealName, InternalName, CustomName, AnonName}
use Rattle.jsx_base.specs.Lines.{lines, size, line_of, col_of}
use Rattle.jsx_base.specs.Files.{File, holds, file_at, front_at}

-- the ends of a span, in order
abbrev pub low : Span → ℕ
low sp = min sp.lo.0 sp.hi.0

abbrev pub high : Span → ℕ
high sp = max sp.lo.0 sp.hi.0

-- a file, where it has this place too
abbrev pub also_with : ℕ → Option File → Option File
also_with pos None = None
also_with pos (Some file) = cond (holds pos file) (Some file) None

-- the file in which both ends are
abbrev pub span_file : List File → Span → Option File
span_file files sp = also_with (high sp) (file_at files (low sp))

-- the text of a span
abbrev pub text_between : Span → File → List ℕ
text_between sp file = drop (length (front_at file (low sp))) (front_at file (high sp))

abbrev pub snippet : List File → Span → Option (List ℕ)
snippet files sp = option_map (text_between sp) (span_file files sp)

-- the name of the file of a span
abbrev pub span_name : List File → Span → Name
span_name files sp = unwrap_or (option_map (λ file. file.name) (file_at files (low sp))) AnonName

-- where the character of a place begins
abbrev pub begin_of : File → ℕ → ℕ
begin_of file pos = file.start + size (front_at file pos)

-- whether the first of two spans ends on the line on which the second begins, and not after it
abbrev pub meets : Span → Span → File → Bool
meets left right file =
    nat_eq (line_of (front_at file (high left))) (line_of (front_at file (low right)))
    && nat_le (begin_of file (high left)) (begin_of file (low right))

-- from the first span's begin to the second one's end, where they meet in a file
abbrev pub merged_in : Span → Span → Option File → Option Span
merged_in left right None = None
merged_in left right (Some file) =
    cond (holds (low right) file && (holds (high right) file && meets left right file))
    (Some (record { lo = record { 0 = begin_of file (low left) }; hi = record { 0 = begin_of file (high right) } }))
    None

abbrev pub merged : List File → Span → Span → Option Span
merged files left right = merged_in left right (span_file files left)

-- two spans as one: the first one's text, what stands behind it on its line, and the second one's text
pub record HoldsBoth (left right sp : Span) (file : File) : Type 0 where
  pub between : List ℕ
  pub on_one_line : line_of between ≡ 1
  pub text : text_between sp file ≡ text_between left file ++ (between ++ text_between right file)

abbrev pub MergedHoldBoth : Type 0
MergedHoldBoth = (file : File) (left right sp : Span) → merged_in left right (Some file) ≡ Some sp → HoldsBoth left right sp file

-- a line of a span: its number from 0, and its columns
pub record LineData : Type 0 where
  pub index : ℕ
  pub start_col : ℕ
  pub end_col : ℕ

-- the line of this number: from the first line's column, or 0, up to the last line's column, or the line's end
abbrev pub line_between : File → ℕ × ℕ → ℕ × ℕ → ℕ → LineData
line_between file first last index = record {
  index = index;
  start_col = cond (nat_eq (index + 1) first.0) first.1 0;
  end_col = cond (nat_eq (index + 1) last.0) last.1 (length (unwrap_or (slice_get (lines file.text) index) []));
}

-- the lines from one line and column to another
abbrev pub lines_between : File → ℕ × ℕ → ℕ × ℕ → List LineData
lines_between file first last = map (line_between file first last) (range_with_len (first.0 - 1) (last.0 - (first.0 - 1)))

-- the lines of a span
pub record LinesData : Type 0 where
  pub file : File
  pub lines : List LineData

-- the line and the column that a front ends in
abbrev pub line_col : List ℕ → ℕ × ℕ
line_col before = (line_of before, col_of before)

abbrev pub lines_in : Span → File → LinesData
lines_in sp file = record { file = file; lines = lines_between file (line_col (front_at file (low sp))) (line_col (front_at file (high sp))) }

-- what a line of a span holds of its file
abbrev pub held_by : File → LineData → List ℕ
held_by file line = drop line.start_col (take line.end_col (unwrap_or (slice_get (lines file.text) line.index) []))

-- lines, with LF between them
abbrev pub joined : List (List ℕ) → List ℕ
joined [] = []
joined (line ∷ []) = line
joined (line ∷ next ∷ more) = line ++ 10 ∷ joined (next ∷ more)

-- the lines of a span, with LF between them, hold its text
abbrev pub LinesHoldText : Type 0
LinesHoldText = (file : File) (sp : Span) → joined (map (held_by file) (lines_in sp file).lines) ≡ text_between sp file

abbrev pub span_lines : List File → Span → Option LinesData
span_lines files sp = option_map (lines_in sp) (span_file files sp)

-- what is printed for a name
abbrev pub shown : Name → List ℕ
shown (RealName text) = text
shown (InternalName text) = codes "<" ++ text ++ codes ">"
shown (CustomName text) = codes "<" ++ text ++ codes ">"
shown AnonName = codes "<anon>"

-- `line:col`, the column from 1
abbrev pub shown_place : ℕ → File → List ℕ
shown_place pos file = decimal (line_of (front_at file pos)) ++ codes ":" ++ decimal (col_of (front_at file pos) + 1)

-- `name:line:col: line:col`
abbrev pub shown_places : Span → File → File → List ℕ
shown_places sp first last = shown first.name ++ codes ":" ++ shown_place (low sp) first ++ codes ": " ++ shown_place (high sp) last

abbrev pub shown_ends : Span → Option File → Option File → List ℕ
shown_ends sp (Some first) (Some last) = shown_places sp first last
shown_ends sp first last = codes "no-location"

abbrev pub shown_span : List File → Span → List ℕ
shown_span files sp = shown_ends sp (file_at files (low sp)) (file_at files (high sp))
