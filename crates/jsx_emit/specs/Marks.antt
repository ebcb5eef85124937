-- The marks under what a suggestion writes.
use Rattle.std.specs.Prelude.{ℕ, ◌+◌, ◌-◌, List, [], ◌∷◌, Option, Some, None, cond, nat_eq, length, codes}
use Rattle.std.specs.List.{sum_by}
use Rattle.std.specs.Str.{chars, trim, trim_start}
use Rattle.jsx_base.specs.declared.place.Span.{Span}
use Rattle.jsx_base.specs.Files.{File, Place, place_at}
use Rattle.jsx_base.specs.Lines.{columns_of}
use Rattle.jsx_base.specs.SpanPlaces.{high, low}
use Rattle.jsx_diag.specs.declared.level.Style.TheVariants as style
use Rattle.jsx_diag.specs.Data.{Text, Edit}
use Rattle.jsx_draw.specs.Drawn.{across}
use Rattle.jsx_draw.specs.Grid.{Grid, in_style, put_cell, put_text}

-- the display columns at which a span begins and ends, if both are in files
abbrev pub both_columns : Option Place → Option Place → Option (ℕ × ℕ)
both_columns None last = None
both_columns (Some first) None = None
both_columns (Some first) (Some last) = Some (first.col_display, last.col_display)

abbrev pub columns_at : List File → Span → Option (ℕ × ℕ)
columns_at files sp = both_columns (place_at files (low sp)) (place_at files (high sp))

-- the display columns of a text
abbrev pub columns : Text → ℕ
columns text = sum_by columns_of (chars text)

-- how many bytes of white space a text begins with
abbrev pub lead : Text → ℕ
lead text = length text - length (trim_start text)

-- in a row, carets under n cells, or under none of them the cell before a place and the one at it
abbrev pub mark_at : ℕ → ℕ → ℕ → Grid → Grid
mark_at row col n grid =
    cond (nat_eq n 0)
    (put_cell row col (45, style.UnderlineSecondary) (put_cell row (col - 1) (45, style.UnderlineSecondary) grid))
    (across row col (col + n - col) (94, style.UnderlinePrimary) grid)

-- the mark of a part, moved by what earlier ones put in and took away
abbrev pub part_mark : ℕ → ℕ → ℕ → ℕ → ℕ → Text → Grid → Grid
part_mark row code by back first snippet grid = mark_at row (code + (first + lead snippet + by - back)) (columns (trim snippet)) grid

abbrev pub mark_then : Option (ℕ × ℕ) → (ℕ × ℕ → Grid) → Grid → Grid
mark_then None next grid = grid
mark_then (Some ends) next grid = next ends

-- the marks of parts, up to the first that is in no file
abbrev pub marks_of : List File → ℕ → ℕ → ℕ → ℕ → List Edit → Grid → Grid
marks_of files row code by back [] grid = grid
marks_of files row code by back (part ∷ more) grid =
    mark_then (columns_at files part.span)
    (λ ends. marks_of files row code (by + columns part.snippet + ends.0) (back + ends.1) more (part_mark row code by back ends.0 part.snippet grid))
    grid

-- a bar behind the numbers, and marks
abbrev pub marks_drawn : List File → ℕ → ℕ → List Edit → Grid → Grid
marks_drawn files w row parts grid = marks_of files row (w + 3) 0 0 parts (put_text row (w + 1) (in_style style.LineNumber (codes "| ")) grid)
