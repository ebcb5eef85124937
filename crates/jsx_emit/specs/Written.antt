-- The part of a suggestion that stands apart, row by row: its message, and what it writes in each way.
use Rattle.std.specs.Prelude.{ℕ, ◌+◌, ◌-◌, List, [], ◌∷◌, ◌++◌, Option, Some, None, Bool, true, false, not, ◌&&◌, cond, nat_eq, nat_le, nat_lt, length, map, take, codes, decimal}
use Rattle.std.specs.List.{flat_map, list_all}
use Rattle.std.specs.Option.{is_none}
use Rattle.std.specs.Str.{bytes_eq, chars, encode_utf8_all, trim}
use Rattle.jsx_base.specs.Files.{File, Place, place_at}
use Rattle.jsx_base.specs.Lines.{lines}
use Rattle.jsx_base.specs.SpanPlaces.{high, low}
use Rattle.jsx_diag.specs.declared.level.Style.TheVariants as style
use Rattle.jsx_diag.specs.Data.{Text, Edit, Suggestion}
use Rattle.jsx_diag.specs.Splice.{Spliced, by_start, refusal, spliced}
use Rattle.jsx_draw.specs.Grid.{Cell, Grid, in_style, put_behind, put_cell, put_text}
use Rattle.jsx_emit.specs.Page.{blanks}
use Rattle.jsx_emit.specs.Marks.{marks_drawn}

-- ---- rows

-- the characters of a row
abbrev pub row_chars : List Cell → List ℕ
row_chars row = map (λ cell. cell.0) row

-- the rows of a grid without styles
abbrev pub grid_chars : Grid → List (List ℕ)
grid_chars grid = map row_chars grid

-- `|` behind the numbers
abbrev pub bar_row : ℕ → List ℕ
bar_row w = blanks (w + 1) ++ codes "|"

-- ---- the message

-- lines behind so many blanks
abbrev pub set_in : ℕ → List (List ℕ) → List (List ℕ)
set_in n lines = map (λ line. blanks n ++ line) lines

-- the first line behind `help: `, and the others behind blanks
abbrev pub help_lines : ℕ → List (List ℕ) → List (List ℕ)
help_lines w [] = []
help_lines w (line ∷ more) = (codes "help: " ++ line) ∷ set_in (w + 15) more

-- the message in the first rows
abbrev pub help_grid : ℕ → List (List ℕ) → Grid
help_grid w lines = map (in_style style.NoStyle) (help_lines w lines)

-- ---- the ways that are shown

-- no part begins before the one before it ends
abbrev pub in_turn : List Edit → Bool
in_turn [] = true
in_turn (part ∷ []) = true
in_turn (part ∷ next ∷ more) = nat_le (high part.span) (low next.span) && in_turn (next ∷ more)

abbrev pub if_written : Option Spliced → List Spliced
if_written None = []
if_written (Some it) = it ∷ []

-- the texts that a suggestion shows, each with its parts: none where its lines are refused or parts of one overlap
abbrev pub shown_ways : List File → Suggestion → List Spliced
shown_ways files it =
    cond (is_none (refusal files it.substitutions) && list_all (λ way. in_turn (by_start way)) it.substitutions)
    (flat_map (λ way. if_written (spliced files way)) it.substitutions)
    []

-- ---- the lines of a text

-- a line's number, or `LL`
abbrev pub line_number : Bool → ℕ → Text
line_number ui_testing line = cond ui_testing (codes "LL") (decimal line)

-- a line in a row, behind its number, a bar, and what stands there already
abbrev pub source_drawn : Bool → ℕ → ℕ → ℕ → List ℕ → Grid → Grid
source_drawn ui_testing w row number line grid =
    put_behind row (in_style style.NoStyle line)
    (put_cell row (w + 2) (32, style.LineNumber)
    (put_cell row (w + 1) (124, style.LineNumber)
    (put_text row 0 (in_style style.LineNumber (chars (line_number ui_testing number))) grid)))

-- lines from a row on
abbrev pub sources_drawn : Bool → ℕ → ℕ → ℕ → List (List ℕ) → Grid → Grid
sources_drawn ui_testing w row number [] grid = grid
sources_drawn ui_testing w row number (line ∷ more) grid = sources_drawn ui_testing w (row + 1) (number + 1) more (source_drawn ui_testing w row number line grid)

-- ---- what stands below the lines of a text

-- a text is its only snippet, both without white space at their ends
abbrev pub is_sole : List ℕ → List Edit → Bool
is_sole text [] = false
is_sole text (part ∷ []) = bytes_eq (trim part.snippet) (trim (encode_utf8_all text))
is_sole text (part ∷ next ∷ more) = false

-- a text has a row of marks: it is one line, and more than its snippet
abbrev pub has_marks : List ℕ → List Edit → Bool
has_marks text parts = nat_eq (length (lines text)) 1 && not (is_sole text parts)

-- marks, or a bar
abbrev pub below_drawn : List File → ℕ → ℕ → List ℕ → List Edit → Grid → Grid
below_drawn files w row text parts grid = cond (has_marks text parts) (marks_drawn files w row parts grid) (put_cell row (w + 1) (124, style.LineNumber) grid)

-- ---- texts one below the other

abbrev pub line_in : Option Place → ℕ
line_in None = 0
line_in (Some place) = place.line

-- the line in which the first part begins
abbrev pub first_number : List File → List Edit → ℕ
first_number files [] = 0
first_number files (part ∷ more) = line_in (place_at files (low part.span))

-- more than six lines: the others are left
abbrev pub is_cut : List ℕ → Bool
is_cut text = nat_lt 6 (length (lines text))

-- dots that say that lines are left, in the row that the next text shares; else marks, or a bar
abbrev pub end_drawn : List File → ℕ → ℕ → Spliced → Grid → Grid
end_drawn files w row way grid = cond (is_cut way.text) (put_text row (w - 1) (in_style style.LineNumber (codes "...")) grid) (below_drawn files w row way.text way.parts grid)

-- the row below the first six lines
abbrev pub end_row : ℕ → List ℕ → ℕ
end_row row text = row + length (take 6 (lines text))

-- the first six lines of a text from a row on, and what stands below them
abbrev pub way_drawn : Bool → List File → ℕ → ℕ → Spliced → Grid → Grid
way_drawn ui_testing files w row way grid = end_drawn files w (end_row row way.text) way (sources_drawn ui_testing w row (first_number files way.parts) (take 6 (lines way.text)) grid)

-- the row in which the next text begins
abbrev pub next_row : ℕ → List ℕ → ℕ
next_row row text = end_row row text + cond (is_cut text) 0 1

abbrev pub others_text : ℕ → Text
others_text others = cond (nat_eq others 0) [] (codes "and " ++ (decimal others ++ codes " other candidates"))

-- texts from a row on, and how many others aren't shown
abbrev pub ways_drawn : Bool → List File → ℕ → ℕ → ℕ → List Spliced → Grid → Grid
ways_drawn ui_testing files w others row [] grid = put_text row 0 (in_style style.NoStyle (chars (others_text others))) grid
ways_drawn ui_testing files w others row (way ∷ more) grid = ways_drawn ui_testing files w others (next_row row way.text) more (way_drawn ui_testing files w row way grid)

-- a bar in the second row, and the first four texts from the third on
abbrev pub ways_below : Bool → List File → ℕ → List Spliced → Grid → Grid
ways_below ui_testing files w [] grid = grid
ways_below ui_testing files w (way ∷ more) grid =
    ways_drawn ui_testing files w (length (way ∷ more) - 4) 2 (take 4 (way ∷ more)) (put_cell 1 (w + 1) (124, style.LineNumber) grid)

-- ---- the whole

-- all rows of a suggestion, where numbers take w cells: its message, and what it writes drawn over that
abbrev pub suggestion_rows : Bool → List File → ℕ → Suggestion → List (List ℕ)
suggestion_rows ui_testing files w it = grid_chars (ways_below ui_testing files w (shown_ways files it) (help_grid w (lines (chars it.msg))))
