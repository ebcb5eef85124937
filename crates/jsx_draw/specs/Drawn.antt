-- What is drawn of a report's spans under a line.
use Rattle.std.specs.Prelude.{ℕ, zero, suc, ◌+◌, ◌-◌, List, [], ◌∷◌, ◌++◌, Option, Some, None, Bool, true, false, not, ◌&&◌, ◌||◌, cond, codes, nat_eq, nat_le, nat_lt, length, map}
use Rattle.std.specs.List.{flat_map, list_any}
use Rattle.std.specs.Str.{bytes_eq, chars}
use Rattle.jsx_diag.specs.declared.level.Style.{Style}
use Rattle.jsx_diag.specs.declared.level.Style.TheVariants as style
use Rattle.jsx_diag.specs.Data.{Text}
use Rattle.jsx_draw.specs.Annotation.{Kind, Single, Whole, First, Last, Side, Mark, Multi, first_mark, last_mark, side_mark, is_edge, has_text, distance}
use Rattle.jsx_draw.specs.Grid.{Cell, Grid, in_style, put_cell, put_text}
use Rattle.jsx_draw.specs.Spots.{Spot, ShownLine, at_line, greatest, label_bytes, mark_end, overlap, spot_lines}

-- ---- sorting

-- an item before the first that it may stand before
abbrev pub put_by : {X : Type 0} → (X → X → Bool) → X → List X → List X
put_by before x [] = x ∷ []
put_by before x (y ∷ more) = cond (before x y) (x ∷ y ∷ more) (y ∷ put_by before x more)

-- items in an order; those that are alike keep theirs
abbrev pub sorted_by : {X : Type 0} → (X → X → Bool) → List X → List X
sorted_by before [] = []
sorted_by before (x ∷ more) = put_by before x (sorted_by before more)

-- ---- marks of a line

abbrev pub single_mark : Spot → Mark
single_mark spot = record { start_col = spot.reach.first.col_display; end_col = mark_end spot.reach; is_primary = spot.is_primary; label = spot.label; kind = Single }

-- a span over several lines, and its column among the bars
pub record Wide : Type 0 where
  pub spot : Spot
  pub depth : ℕ

abbrev pub multi_of_wide : Wide → Multi
multi_of_wide it = record { depth = it.depth; line_start = it.spot.reach.first.line; line_end = it.spot.reach.last.line; start_col = it.spot.reach.first.col_display; end_col = it.spot.reach.last.col_display; is_primary = it.spot.is_primary; label = it.spot.label }

-- ---- the columns of bars

abbrev pub first_column : Spot → Wide
first_column spot = record { spot = spot; depth = 1 }

-- two spans have lines with one number
abbrev pub share_line : Spot → Spot → Bool
share_line a b = nat_le a.reach.first.line b.reach.last.line && nat_le b.reach.first.line a.reach.last.line

abbrev pub same_label : Option Text → Option Text → Bool
same_label None None = true
same_label None (Some b) = false
same_label (Some a) None = false
same_label (Some a) (Some b) = bytes_eq a b

-- two spans are drawn alike: at the same lines and columns, with the same label
abbrev pub drawn_alike : Spot → Spot → Bool
drawn_alike a b =
    (nat_eq a.reach.first.line b.reach.first.line && nat_eq a.reach.first.col_display b.reach.first.col_display)
    && ((nat_eq a.reach.last.line b.reach.last.line && nat_eq a.reach.last.col_display b.reach.last.col_display)
    && (cond a.is_primary b.is_primary (not b.is_primary) && same_label a.label b.label))

-- it shares a line with a span, and isn't that span in the first column
abbrev pub moves_with : Spot → Wide → Bool
moves_with one it = share_line it.spot one && not (nat_eq it.depth 1 && drawn_alike it.spot one)

-- those before the first that doesn't move stand one column further right
abbrev pub moved_by : Spot → List Wide → List Wide
moved_by one [] = []
moved_by one (it ∷ more) = cond (moves_with one it) (record it { depth = it.depth + 1 } ∷ moved_by one more) (it ∷ more)

abbrev pub moved_by_each : List Spot → List Wide → List Wide
moved_by_each [] wides = wides
moved_by_each (one ∷ more) wides = moved_by_each more (moved_by one wides)

-- spans by their lines, each with its column: all stand in the first, and then each moves those that share a line with it
abbrev pub side_by_side : List Spot → List Wide
side_by_side spots = moved_by_each spots (map first_column spots)

-- ---- what is drawn at a line

-- what is drawn of a span over several lines at one of them
abbrev pub wide_at : ℕ → Wide → List Mark
wide_at line it =
    cond (nat_eq line it.spot.reach.first.line) (first_mark (multi_of_wide it) ∷ [])
    (cond (nat_eq line it.spot.reach.last.line) (last_mark (multi_of_wide it) ∷ [])
    (cond (list_any (nat_eq line) (spot_lines it.spot)) (side_mark (multi_of_wide it) ∷ []) []))

abbrev pub wide_marks : ShownLine → Wide → List Mark
wide_marks at it = cond (nat_eq it.spot.file.start at.file.start) (wide_at at.line it) []

abbrev pub marks_in : List Spot → List Wide → ShownLine → List Mark
marks_in singles wides at = map single_mark (at_line at singles) ++ flat_map (wide_marks at) wides

-- ---- where the labels of marks stand

abbrev pub mark_overlaps : ℕ → Mark → Mark → Bool
mark_overlaps n one other = overlap one.start_col (one.end_col + n) other.start_col other.end_col

-- one is where a span over several lines begins or ends, and the other is so too, or has a label
abbrev pub edges_meet : Mark → Mark → Bool
edges_meet mark later = (is_edge mark.kind && (is_edge later.kind || has_text later.label)) || (is_edge later.kind && has_text mark.label)

abbrev pub labels_meet : ℕ → Mark → Mark → Bool
labels_meet p mark later =
    has_text later.label
    && (mark_overlaps (length (label_bytes later.label) + 2) later mark
    && (has_text mark.label || (nat_eq p 0 && nat_le later.end_col mark.end_col)))

abbrev pub marks_meet : ℕ → Mark → Mark → Bool
marks_meet p mark later = edges_meet mark later || labels_meet p mark later

pub record PlacedMark : Type 0 where
  pub mark : Mark
  pub row : ℕ

abbrev pub mark_row : ℕ → Mark → List Mark → ℕ
mark_row p mark later = cond (nat_eq p 0 && (has_text mark.label && list_any (λ other. mark_overlaps 0 other mark) later)) 1 p

abbrev pub row_behind : ℕ → Mark → List Mark → ℕ
row_behind p mark later = cond (list_any (marks_meet p mark) later) (p + 1) p

abbrev pub marks_placed : ℕ → List Mark → List PlacedMark
marks_placed p [] = []
marks_placed p (mark ∷ later) = record { mark = mark; row = mark_row p mark later } ∷ marks_placed (row_behind (mark_row p mark later) mark later) later

abbrev pub begins_later : Mark → Mark → Bool
begins_later a b = nat_le b.start_col a.start_col

abbrev pub is_longer : PlacedMark → PlacedMark → Bool
is_longer a b = nat_le (distance b.mark.start_col b.mark.end_col) (distance a.mark.start_col a.mark.end_col)

abbrev pub laid_out : List Mark → List PlacedMark
laid_out marks = marks_placed 0 (sorted_by begins_later marks)

-- how many rows stand under a line
abbrev pub rows_for : ℕ → ℕ
rows_for greatest = cond (nat_eq greatest 0) 1 (greatest + 2)

abbrev pub row_count : List PlacedMark → ℕ
row_count placed = rows_for (greatest (map (λ it. it.row) placed))

-- ---- drawing

-- where the bars and the text of a line stand
pub record Columns : Type 0 where
  pub bars : ℕ
  pub code : ℕ

abbrev pub drawn : {X : Type 0} → (X → Grid → Grid) → List X → Grid → Grid
drawn draw [] grid = grid
drawn draw (x ∷ xs) grid = drawn draw xs (draw x grid)

-- a cell again and again, n times from a column on, or from a row on
abbrev pub across : ℕ → ℕ → ℕ → Cell → Grid → Grid
across row from zero cell grid = grid
across row from (suc n) cell grid = put_cell row (from + n) cell (across row from n cell grid)

abbrev pub down : ℕ → ℕ → ℕ → Cell → Grid → Grid
down col from zero cell grid = grid
down col from (suc n) cell grid = put_cell (from + n) col cell (down col from n cell grid)

abbrev pub line_style : Bool → Style
line_style is_primary = cond is_primary style.UnderlinePrimary style.UnderlineSecondary

abbrev pub label_style : Bool → Style
label_style is_primary = cond is_primary style.LabelPrimary style.LabelSecondary

-- the bar behind the numbers, in so many rows
abbrev pub frame : ℕ → ℕ → Grid
frame col zero = []
frame col (suc n) = put_text n col (in_style style.LineNumber (codes "| ")) (frame col n)

-- from the bar to where a span over several lines begins or ends
abbrev pub edge_of : Columns → PlacedMark → Kind → Grid → Grid
edge_of at it Single grid = grid
edge_of at it (Whole whole) grid = grid
edge_of at it (First depth) grid = across it.row (at.bars + depth + 1) (at.code + it.mark.start_col - (at.bars + depth + 1)) (95, line_style it.mark.is_primary) grid
edge_of at it (Last depth) grid = across it.row (at.bars + depth + 1) (at.code + it.mark.start_col - (at.bars + depth + 1)) (95, line_style it.mark.is_primary) grid
edge_of at it (Side depth) grid = grid

abbrev pub draw_edge : Columns → PlacedMark → Grid → Grid
draw_edge at it grid = edge_of at it it.mark.kind grid

-- from the line down to a label
abbrev pub draw_down : Columns → PlacedMark → Grid → Grid
draw_down at it grid =
    cond (nat_lt 0 it.row && (has_text it.mark.label || is_edge it.mark.kind)) (down (at.code + it.mark.start_col) 0 (it.row + 1 - 0) (124, line_style it.mark.is_primary) grid) grid

-- the bar beside a span over several lines: below where it begins, and down to where it ends
abbrev pub side_of : Columns → ℕ → PlacedMark → Kind → Grid → Grid
side_of at rows it Single grid = grid
side_of at rows it (Whole whole) grid = grid
side_of at rows it (First depth) grid = down (at.bars + depth) (it.row + 1) (rows - (it.row + 1)) (124, line_style it.mark.is_primary) grid
side_of at rows it (Last depth) grid = down (at.bars + depth) 0 (it.row + 1 - 0) (124, line_style it.mark.is_primary) grid
side_of at rows it (Side depth) grid = grid

abbrev pub draw_side : Columns → ℕ → PlacedMark → Grid → Grid
draw_side at rows it grid = side_of at rows it it.mark.kind grid

abbrev pub draw_label : Columns → PlacedMark → Grid → Grid
draw_label at it grid =
    cond (nat_eq it.row 0)
    (put_text 0 (at.code + it.mark.end_col + 1) (in_style (label_style it.mark.is_primary) (chars (label_bytes it.mark.label))) grid)
    (put_text (it.row + 1) (at.code + it.mark.start_col) (in_style (label_style it.mark.is_primary) (chars (label_bytes it.mark.label))) grid)

abbrev pub underline : Bool → Cell
underline is_primary = (cond is_primary 94 45, line_style is_primary)

abbrev pub draw_underline : Columns → PlacedMark → Grid → Grid
draw_underline at it grid = across 0 (at.code + it.mark.start_col) (at.code + it.mark.end_col - (at.code + it.mark.start_col)) (underline it.mark.is_primary) grid

-- the bar of an open span in each row
abbrev pub draw_open : ℕ → ℕ → ℕ → Grid → Grid
draw_open bars rows depth grid = down (bars + depth) 0 (rows - 0) (124, style.UnderlinePrimary) grid

-- what is drawn of each span before the next is
pub data Layer : Type 0 where
  Edges : Layer
  Downs : Layer
  Sides : ℕ → Layer
  Labels : Layer
  Underlines : Layer

abbrev pub layer_of : Layer → Columns → PlacedMark → Grid → Grid
layer_of Edges at it grid = draw_edge at it grid
layer_of Downs at it grid = draw_down at it grid
layer_of (Sides rows) at it grid = draw_side at rows it grid
layer_of Labels at it grid = draw_label at it grid
layer_of Underlines at it grid = draw_underline at it grid

-- what stands under a line
abbrev pub under_line : Columns → List ℕ → List PlacedMark → Grid
under_line at depths placed =
    drawn (draw_open at.bars (row_count placed)) depths
    (drawn (layer_of Underlines at) (sorted_by is_longer placed)
    (drawn (layer_of Labels at) placed
    (drawn (layer_of (Sides (row_count placed)) at) placed
    (drawn (layer_of Downs at) placed
    (drawn (layer_of Edges at) placed (frame (at.bars - 1) (row_count placed)))))))

-- ---- bars beside lines

-- the bars of spans that begin before a line, and end there or later, or later
abbrev pub bar_of : (Wide → Bool) → Wide → List ℕ
bar_of test it = cond (test it) (it.depth ∷ []) []

abbrev pub goes_to : ShownLine → Wide → Bool
goes_to at it = nat_eq it.spot.file.start at.file.start && (nat_lt it.spot.reach.first.line at.line && nat_le at.line it.spot.reach.last.line)

abbrev pub goes_past : ShownLine → Wide → Bool
goes_past at it = nat_eq it.spot.file.start at.file.start && (nat_lt it.spot.reach.first.line at.line && nat_lt at.line it.spot.reach.last.line)

abbrev pub bars_to : List Wide → ShownLine → List ℕ
bars_to wides at = flat_map (bar_of (goes_to at)) wides

abbrev pub bars_past : List Wide → ShownLine → List ℕ
bars_past wides at = flat_map (bar_of (goes_past at)) wides
