-- A grid of characters with styles, which a page is drawn on.
use Rattle.std.specs.Prelude.{ℕ, zero, suc, ◌+◌, ◌-◌, ◌≤◌, get_or, vec_capacity, Bool, true, false, ◌||◌, cond, nat_eq, List, [], ◌∷◌, ◌++◌, map, length, take, drop, replicate, string_bytes}
use Rattle.std.specs.declared.alloc.Global.{Global}
use Rattle.std.specs.declared.vec.Vec.{Vec}
use Rattle.std.specs.List.{flat_map}
use Rattle.std.specs.Str.{chars}
use Rattle.jsx_diag.specs.declared.level.Style.{Style}
use Rattle.jsx_diag.specs.declared.level.Style.TheVariants as style
use Rattle.jsx_diag.specs.contracts.level.StylePartialEq.TheImpl as equal
use Rattle.jsx_draw.specs.declared.styled_buffer.StyledString.{StyledString}

-- a character and its style
abbrev pub Cell : Type 0
Cell = ℕ × Style

-- rows of cells
abbrev pub Grid : Type 0
Grid = List (List Cell)

abbrev pub grid_of : List (Vec Cell Global) → Grid
grid_of rows = map (λ row. row.items) rows

-- the vector of the row has room for so many cells
abbrev pub HasRoom : ℕ → ℕ → List (Vec Cell Global) → Type 0
HasRoom line cells rows = (d : Vec Cell Global) → cells ≤ vec_capacity (get_or rows line d)

abbrev pub blank : Cell
blank = (32, style.NoStyle)

-- the characters of a text in one style
abbrev pub in_style : Style → List ℕ → List Cell
in_style style text = map (λ c. (c, style)) text

-- ---- rows

-- a list of at least n elements: behind its end stands one again and again
abbrev pub extended : {X : Type 0} → X → ℕ → List X → List X
extended x n xs = xs ++ replicate (n - length xs) x

-- a row with at least so many cells: behind its end stand blanks
abbrev pub padded : ℕ → List Cell → List Cell
padded n row = extended blank n row

-- a cell put at a column
abbrev pub put : ℕ → Cell → List Cell → List Cell
put col cell row = take col (padded col row) ++ cell ∷ drop (col + 1) row

-- cells put one behind the other, from a column on
abbrev pub put_all : ℕ → List Cell → List Cell → List Cell
put_all col [] row = row
put_all col (cell ∷ cells) row = put_all (col + 1) cells (put col cell row)

-- a list of which one element is changed, if it is there
abbrev pub change_at : {X : Type 0} → ℕ → (X → X) → List X → List X
change_at i change [] = []
change_at zero change (x ∷ xs) = change x ∷ xs
change_at (suc i) change (x ∷ xs) = x ∷ change_at i change xs

-- a list of which the first n elements are changed, as far as they are there
abbrev pub change_first : {X : Type 0} → ℕ → (X → X) → List X → List X
change_first zero change xs = xs
change_first (suc n) change [] = []
change_first (suc n) change (x ∷ xs) = change x ∷ change_first n change xs

-- a list of which n elements are changed behind those that are left
abbrev pub change_from : {X : Type 0} → ℕ → ℕ → (X → X) → List X → List X
change_from zero n change xs = change_first n change xs
change_from (suc left) n change [] = []
change_from (suc left) n change (x ∷ xs) = x ∷ change_from left n change xs

-- a style that another one may take the place of
abbrev pub is_plain : Style → Bool
is_plain style.NoStyle = true
is_plain style.Quotation = true
is_plain style.MainHeaderMsg = false
is_plain style.HeaderMsg = false
is_plain style.LineAndColumn = false
is_plain style.LineNumber = false
is_plain style.UnderlinePrimary = false
is_plain style.UnderlineSecondary = false
is_plain style.LabelPrimary = false
is_plain style.LabelSecondary = false
is_plain style.OldSchoolNoteText = false
is_plain (style.Level level) = false
is_plain style.Highlight = false

abbrev pub restyled : Style → Bool → Cell → Cell
restyled new overwrite cell = cond (overwrite || is_plain cell.1) (cell.0, new) cell

-- ---- grids

-- a grid with at least so many rows: below its end stand empty ones
abbrev pub with_rows : ℕ → Grid → Grid
with_rows n grid = extended [] n grid

-- a row that is made, if it isn't there, and changed
abbrev pub change_row : ℕ → (List Cell → List Cell) → Grid → Grid
change_row line change grid = change_at line change (with_rows (line + 1) grid)

abbrev pub put_cell : ℕ → ℕ → Cell → Grid → Grid
put_cell line col cell grid = change_row line (put col cell) grid

-- a text put from a column on; an empty one changes nothing
abbrev pub put_text : ℕ → ℕ → List Cell → Grid → Grid
put_text line col [] grid = grid
put_text line col (cell ∷ cells) grid = change_row line (put_all col (cell ∷ cells)) grid

-- a text put before the row
abbrev pub put_before : ℕ → List Cell → Grid → Grid
put_before line cells grid = change_row line (λ row. cells ++ row) grid

-- the row of this number, or none where it isn't there
abbrev pub row_at : ℕ → Grid → List Cell
row_at line [] = []
row_at zero (row ∷ rows) = row
row_at (suc line) (row ∷ rows) = row_at line rows

-- a text put behind the row
abbrev pub put_behind : ℕ → List Cell → Grid → Grid
put_behind line cells grid = put_text line (length (row_at line grid)) cells grid

-- so many cells of a row from a column on, with another style where that may be
abbrev pub restyle : ℕ → ℕ → ℕ → Style → Bool → Grid → Grid
restyle line col n new overwrite grid = change_at line (change_from col n (restyled new overwrite)) grid

-- ---- what is shown of a grid

-- a text in one style
pub record Run : Type 0 where
  pub text : List ℕ
  pub style : Style

abbrev pub run_of : StyledString → Run
run_of it = record { text = chars (string_bytes it.text); style = it.style }

-- a tab is shown as four blanks
abbrev pub shown_cell : Cell → List Cell
shown_cell cell = cond (nat_eq cell.0 9) (replicate 4 (32, cell.1)) (cell ∷ [])

-- what `==` says of two styles
abbrev pub same_style : Style → Style → Bool
same_style a b = equal.eq-value.it a b

abbrev pub run_of_cell : Cell → Run
run_of_cell cell = record { text = cell.0 ∷ []; style = cell.1 }

-- a cell behind some runs: it joins the last, if that has its style
abbrev pub add_cell : List Run → Cell → List Run
add_cell [] cell = run_of_cell cell ∷ []
add_cell (run ∷ []) cell = cond (same_style run.style cell.1) (record run { text = run.text ++ cell.0 ∷ [] } ∷ []) (run ∷ run_of_cell cell ∷ [])
add_cell (run ∷ next ∷ more) cell = run ∷ add_cell (next ∷ more) cell

abbrev pub add_cells : List Run → List Cell → List Run
add_cells runs [] = runs
add_cells runs (cell ∷ cells) = add_cells (add_cell runs cell) cells

-- a row as runs of one style
abbrev pub shown_row : List Cell → List Run
shown_row row = add_cells [] (flat_map shown_cell row)

abbrev pub shown_runs : Vec StyledString Global → List Run
shown_runs it = map run_of it.items
