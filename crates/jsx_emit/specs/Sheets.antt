-- The lines of a report's spans and what stands under and between them, row by row.
use Rattle.std.specs.Prelude.{◌≡◌, ℕ, zero, suc, ◌+◌, List, [], ◌∷◌, ◌++◌, Option, Some, None, Bool, not, ◌||◌, cond, nat_eq, nat_lt, map, filter, max, take, codes, decimal}
use Rattle.std.specs.Char.{is_whitespace}
use Rattle.std.specs.List.{flat_map, list_all, list_any}
use Rattle.std.specs.Str.{chars}
use Rattle.jsx_base.specs.Files.{File, Place}
use Rattle.jsx_base.specs.SpanPlaces.{shown}
use Rattle.jsx_diag.specs.declared.level.Style.TheVariants as style
use Rattle.jsx_diag.specs.Data.{Text}
use Rattle.jsx_draw.specs.Annotation.{Kind, Single, Whole, First, Last, Side, Mark, is_side}
use Rattle.jsx_draw.specs.Grid.{in_style, put_text}
use Rattle.jsx_emit.specs.Page.{Look, blanks, left_in, line_chars, place_line, rows_text}
use Rattle.jsx_draw.specs.Spots.{Spot, ShownFile, ShownLine, by_lines, greatest, primary_place, spots, is_single, primary_first, shown_files}
use Rattle.jsx_base.specs.MultiSpan.{Spans}
use Rattle.jsx_emit.specs.Written.{bar_row, grid_chars}
use Rattle.jsx_draw.specs.Drawn.{Wide, marks_in, laid_out, Columns, drawn, draw_open, side_by_side, under_line, bars_to, bars_past}

-- ---- lines

-- the cell of a column of bars: `/` where a span begins its line
abbrev pub bar_cell : List ℕ → ℕ → ℕ → ℕ
bar_cell bars slash depth = cond (nat_eq depth slash) 47 (cond (list_any (nat_eq depth) bars) 124 32)

abbrev pub bar_cells : List ℕ → ℕ → ℕ → List ℕ
bar_cells bars slash zero = []
bar_cells bars slash (suc n) = bar_cells bars slash n ++ bar_cell bars slash (n + 1) ∷ []

-- what stands between the bar behind the numbers and the text of a line: before an empty one no more than the last bar
abbrev pub gutter : ℕ → List ℕ → ℕ → List ℕ → List ℕ
gutter depth bars slash [] = 32 ∷ bar_cells bars slash (max slash (greatest bars))
gutter depth bars slash (c ∷ text) = 32 ∷ (bar_cells bars slash depth ++ cond (nat_eq depth 0) [] (32 ∷ []))

-- a line's number, or `LL`
abbrev pub number_in : Bool → ℕ → ℕ → Text
number_in ui_testing w line = left_in w (cond ui_testing (codes "LL") (decimal line))

abbrev pub line_row : Bool → ℕ → ℕ → List ℕ → ℕ → ShownLine → List ℕ
line_row ui_testing w depth bars slash at =
    number_in ui_testing w at.line ++ (codes " |" ++ (gutter depth bars slash (line_chars at.file at.line) ++ line_chars at.file at.line))

-- the column of a span that is the only one of its line and begins with its text, or 0
abbrev pub slash_of : Kind → ℕ → List ℕ → ℕ
slash_of Single col text = 0
slash_of (Whole it) col text = 0
slash_of (First depth) col text = cond (list_all is_whitespace (take col text)) depth 0
slash_of (Last depth) col text = 0
slash_of (Side depth) col text = 0

abbrev pub slash_in : List Mark → List ℕ → ℕ
slash_in [] text = 0
slash_in (mark ∷ []) text = slash_of mark.kind mark.start_col text
slash_in (mark ∷ next ∷ more) text = 0

-- what all lines of a report's part are drawn by
pub record Sheet : Type 0 where
  pub ui_testing : Bool
  pub width : ℕ
  pub depth : ℕ
  pub singles : List Spot
  pub wides : List Wide

abbrev pub columns_in : Sheet → Columns
columns_in sheet = record { bars = sheet.width + 2; code = cond (nat_eq sheet.depth 0) (sheet.width + 3) (sheet.width + 4 + sheet.depth) }

-- nothing stands under a line of which no span is marked there
abbrev pub under_rows : Sheet → List Mark → ℕ → ShownLine → List (List ℕ)
under_rows sheet marks slash at =
    cond (not (nat_eq slash 0) || list_all (λ mark. is_side mark.kind) marks) [] (grid_chars (under_line (columns_in sheet) (bars_past sheet.wides at) (laid_out marks)))

abbrev pub marked_rows : Sheet → List Mark → ShownLine → List (List ℕ)
marked_rows sheet marks at =
    line_row sheet.ui_testing sheet.width sheet.depth (bars_to sheet.wides at) (slash_in marks (line_chars at.file at.line)) at
    ∷ under_rows sheet marks (slash_in marks (line_chars at.file at.line)) at

-- a line, and what stands under it
abbrev pub block : Sheet → ShownLine → List (List ℕ)
block sheet at = marked_rows sheet (marks_in sheet.singles sheet.wides at) at

-- dots for lines that are left out
abbrev pub dots_row : Sheet → ShownLine → List (List ℕ)
dots_row sheet at = grid_chars (drawn (draw_open (sheet.width + 2) 1) (bars_past sheet.wides at) (put_text 0 0 (in_style style.LineNumber (codes "...")) []))

-- between two lines: nothing, the one that is missing, or dots
abbrev pub gap : Sheet → File → ℕ → ℕ → List (List ℕ)
gap sheet file line next =
    cond (nat_lt (line + 2) next) (dots_row sheet (record { file = file; line = line + 1 }))
    (cond (nat_eq (line + 2) next) (line_row sheet.ui_testing sheet.width sheet.depth (bars_past sheet.wides (record { file = file; line = line + 1 })) 0 (record { file = file; line = line + 1 }) ∷ []) [])

abbrev pub gap_before : Sheet → File → ℕ → List ℕ → List (List ℕ)
gap_before sheet file line [] = []
gap_before sheet file line (next ∷ more) = gap sheet file line next

abbrev pub line_blocks : Sheet → File → List ℕ → List (List ℕ)
line_blocks sheet file [] = []
line_blocks sheet file (line ∷ []) = block sheet (record { file = file; line = line })
line_blocks sheet file (line ∷ next ∷ more) = block sheet (record { file = file; line = line }) ++ (gap sheet file line next ++ line_blocks sheet file (next ∷ more))

-- where the lines of a further file begin
abbrev pub first_col : List Mark → ℕ
first_col [] = 1
first_col (mark ∷ more) = mark.start_col + 1

abbrev pub other_place : Look → ℕ → File → ℕ → ℕ → Text
other_place look w file line col = blanks w ++ (codes "::: " ++ (shown file.name ++ (codes ":" ++ (decimal (look.offset_line line) ++ (codes ":" ++ decimal col)))))

abbrev pub first_place : Look → Sheet → File → List ℕ → List (List ℕ)
first_place look sheet file [] = []
first_place look sheet file (line ∷ more) =
    (blanks (sheet.width + 1) ++ codes "| ")
    ∷ chars (other_place look sheet.width file line (first_col (marks_in sheet.singles sheet.wides (record { file = file; line = line }))))
    ∷ bar_row sheet.width ∷ []

abbrev pub other_file : Look → Sheet → ShownFile → List (List ℕ)
other_file look sheet it = first_place look sheet it.file it.lines ++ line_blocks sheet it.file it.lines

abbrev pub file_blocks : Look → Sheet → List ShownFile → List (List ℕ)
file_blocks look sheet [] = []
file_blocks look sheet (first ∷ more) = bar_row sheet.width ∷ (line_blocks sheet first.file first.lines ++ flat_map (other_file look sheet) more)

-- what stands behind the header where the first primary span is at this place
abbrev pub place_blocks : Look → Sheet → Place → List ShownFile → List (List ℕ)
place_blocks look sheet place files = chars (place_line look sheet.width place) ∷ file_blocks look sheet files

-- the spans over several lines, side by side
abbrev pub wides_in : List Spot → List Wide
wides_in spots = side_by_side (by_lines (filter (λ spot. not (is_single spot)) spots))

-- what lines are drawn by, of these spans
abbrev pub sheet_for : Look → ℕ → List Spot → Sheet
sheet_for look w spots =
    record { ui_testing = look.ui_testing; width = w; depth = greatest (map (λ it. it.depth) (wides_in spots)); singles = filter is_single spots; wides = wides_in spots }

-- behind a header: nothing where the first primary span is in no file
abbrev pub RowsOf : Look → ℕ → List Spot → Option Place → List (List ℕ) → Type 0
RowsOf look w spots None rows = rows ≡ []
RowsOf look w spots (Some place) rows = rows ≡ place_blocks look (sheet_for look w spots) place (primary_first place.file.start (shown_files spots))

-- rows behind a header
pub record SpanRows (look : Look) (files : List File) (w : ℕ) (spans : Spans) (old new : Text) : Type 0 where
  pub rows : List (List ℕ)
  pub is : new ≡ old ++ rows_text rows
  pub are : RowsOf look w (spots files spans) (primary_place files spans.primary) rows
