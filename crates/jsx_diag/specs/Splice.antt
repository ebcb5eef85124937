-- The lines that a suggestion writes.
use Rattle.std.specs.Prelude.{ℕ, List, [], ◌∷◌, ◌++◌, Option, Some, None, Bool, false, ◌&&◌, cond, nat_eq, nat_le, length, drop, map, string_bytes}
use Rattle.std.specs.List.{list_any, list_all}
use Rattle.std.specs.Option.{is_none}
use Rattle.std.specs.Str.{chars}
use Rattle.std.specs.declared.alloc.Global.{Global}
use Rattle.std.specs.declared.string.String.{String}
use Rattle.std.specs.declared.vec.Vec.{Vec}
use Rattle.jsx_base.specs.Lines.{lines, last_line}
use Rattle.jsx_base.specs.Files.{File, holds, file_at, front_at}
use Rattle.jsx_base.specs.SpanPlaces.{low, high}
use Rattle.jsx_diag.specs.declared.splice.SpliceError.{SpliceError}
use Rattle.jsx_diag.specs.declared.splice.SpliceError.TheVariants.{NoSubstitutions, NoParts, OtherFile, Memory}
use Rattle.jsx_diag.specs.declared.suggestion.SubstitutionPart.{SubstitutionPart}
use Rattle.jsx_diag.specs.Data.{Edit, edit_of}

-- ---- the order of the parts

-- behind those that don't begin later
abbrev pub put_in : Edit → List Edit → List Edit
put_in part [] = part ∷ []
put_in part (next ∷ more) = cond (nat_le (low next.span) (low part.span)) (next ∷ put_in part more) (part ∷ next ∷ more)

abbrev pub put_all : List Edit → List Edit → List Edit
put_all parts [] = parts
put_all parts (part ∷ more) = put_all (put_in part parts) more

-- by rising start; parts that begin at one place keep their order
abbrev pub by_start : List Edit → List Edit
by_start parts = put_all [] parts

-- ---- the text

-- what stands between two places of a file; nothing where the second isn't behind the first
abbrev pub between : File → ℕ → ℕ → List ℕ
between file begin end = drop (length (front_at file begin)) (front_at file end)

abbrev pub first_line : List (List ℕ) → List ℕ
first_line [] = []
first_line (line ∷ more) = line

-- what stands in a place's line before it, and behind it
abbrev pub line_before : File → ℕ → List ℕ
line_before file pos = last_line (lines (front_at file pos))

abbrev pub line_behind : File → ℕ → List ℕ
line_behind file pos = first_line (lines (drop (length (front_at file pos)) file.text))

-- from a place on, what stands before each part, and the part's snippet in its place
abbrev pub replaced : File → ℕ → List Edit → List ℕ
replaced file pos [] = []
replaced file pos (part ∷ more) = between file pos (low part.span) ++ (chars part.snippet ++ replaced file (high part.span) more)

-- where the last of some parts ends
abbrev pub last_end : ℕ → List Edit → ℕ
last_end pos [] = pos
last_end pos (part ∷ more) = last_end (high part.span) more

abbrev pub ends_line : List ℕ → Bool
ends_line [] = false
ends_line (c ∷ []) = nat_eq c 10
ends_line (c ∷ next ∷ more) = ends_line (next ∷ more)

abbrev pub before_rest : ℕ → List ℕ → List ℕ
before_rest c [] = cond (nat_eq c 10) [] (c ∷ [])
before_rest c (next ∷ more) = c ∷ next ∷ more

-- a text without the LF at its end
abbrev pub without_ends : List ℕ → List ℕ
without_ends [] = []
without_ends (c ∷ text) = before_rest c (without_ends text)

-- what follows a text in its line, unless the text ends in LF
abbrev pub completed : List ℕ → List ℕ → List ℕ
completed text rest = cond (ends_line text) text (text ++ rest)

-- the lines from the first part's to the one in which the last part ends, with each part replaced
abbrev pub spliced_text : File → List Edit → List ℕ
spliced_text file [] = []
spliced_text file (part ∷ more) =
    without_ends (completed
    (line_before file (low part.span) ++ replaced file (low part.span) (part ∷ more))
    (line_behind file (last_end (low part.span) (part ∷ more))))

-- ---- what a suggestion writes

-- the lines, and the parts by rising start
pub record Spliced : Type 0 where
  pub text : List ℕ
  pub parts : List Edit

abbrev pub spliced_data : String Global × Vec SubstitutionPart Global → Spliced
spliced_data it = record { text = chars (string_bytes it.0); parts = map edit_of it.1.items }

abbrev pub spliced_in : File → List Edit → Spliced
spliced_in file parts = record { text = spliced_text file (by_start parts); parts = by_start parts }

abbrev pub is_in : File → Edit → Bool
is_in file part = holds (low part.span) file && holds (high part.span) file

-- the file of the first part, where all the others are in it too
abbrev pub where_all : Option File → List Edit → Option File
where_all None parts = None
where_all (Some file) parts = cond (list_all (is_in file) parts) (Some file) None

abbrev pub parts_file : List File → List Edit → Option File
parts_file files [] = None
parts_file files (part ∷ more) = where_all (file_at files (low part.span)) (part ∷ more)

abbrev pub splice_of : Option File → List Edit → Option Spliced
splice_of None parts = None
splice_of (Some file) parts = Some (spliced_in file parts)

-- what one way writes, where its parts are in one file
abbrev pub spliced : List File → List Edit → Option Spliced
spliced files parts = splice_of (parts_file files parts) parts

abbrev pub is_empty : List Edit → Bool
is_empty parts = nat_eq (length parts) 0

-- why nothing is written: the first that holds
abbrev pub refusal : List File → List (List Edit) → Option SpliceError
refusal files [] = Some NoSubstitutions
refusal files (way ∷ ways) =
    cond (list_any is_empty (way ∷ ways)) (Some NoParts)
    (cond (list_any (λ parts. is_none (parts_file files parts)) (way ∷ ways)) (Some OtherFile) None)

-- what an error says of the input: want of memory says that nothing is wrong with it
abbrev pub fault : SpliceError → Option SpliceError
fault NoSubstitutions = Some NoSubstitutions
fault NoParts = Some NoParts
fault OtherFile = Some OtherFile
fault Memory = None
