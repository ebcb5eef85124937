-- What is put behind a row.
use Rattle.std.proofs.Common.{◌≡◌, ℕ, zero, suc, ◌+◌, ◌<◌, Bool, List, [], ◌∷◌, ◌++◌, length, refl, ap, sym, ◌∙◌, arith, length-append, append-nil, append_assoc}
use Rattle.std.specs.Str.{chars}
use Rattle.jsx_diag.specs.declared.level.Style.TheVariants as style
use Rattle.jsx_draw.specs.Grid.{Cell, Grid, change_at, change_row, in_style, padded, put, put_all, put_behind, extended, put_cell, put_text, row_at}
use Rattle.jsx_draw.proofs.Grids.{extended_none, length-extended, put_behind_end}
use Rattle.jsx_emit.specs.Written.{line_number, source_drawn}

pub put_end : (row : List Cell) (cell : Cell) → put (length row) cell row ≡ row ++ cell ∷ []
put_end row cell =
    let same : padded (length row) row ≡ row = extended_none _ (length row) row (omega arith) in
    sym (put_behind_end (length row) cell row row (sym same) (omega arith))

pub all_behind : (cells row : List Cell) → put_all (length row) cells row ≡ row ++ cells
all_behind [] row = sym (append-nil row)
all_behind (cell ∷ cells) row =
    ap (λ z. put_all (length row + 1) cells z) (put_end row cell)
    ∙ ap (λ n. put_all n cells (row ++ cell ∷ [])) (omega (arith, length-append row (cell ∷ [])))
    ∙ all_behind cells (row ++ cell ∷ [])
    ∙ append_assoc row (cell ∷ []) cells

pub change_one : (change : List Cell → List Cell) (row : List Cell) → change_row 0 change (row ∷ []) ≡ change row ∷ []
change_one change row = ap (change_at 0 change) (extended_none [] 1 (row ∷ []) (omega arith))

-- ---- a row of several

changed_at : (i : ℕ) (change : List Cell → List Cell) (grid : Grid) → i < length grid → row_at i (change_at i change grid) ≡ change (row_at i grid)
changed_at i change [] within = absurd (omega arith)
changed_at zero change (row ∷ rows) within = refl
changed_at (suc i) change (row ∷ rows) within = changed_at i change rows (omega arith)

length-change_at : (i : ℕ) (change : List Cell → List Cell) (grid : Grid) → length (change_at i change grid) ≡ length grid
length-change_at i change [] = refl
length-change_at zero change (row ∷ rows) = refl
length-change_at (suc i) change (row ∷ rows) = ap suc (length-change_at i change rows)

row_there : (row : ℕ) (change : List Cell → List Cell) (grid : Grid) → row < length (change_row row change grid)
row_there row change grid = omega (arith, length-change_at row change (extended [] (row + 1) grid), length-extended [] (row + 1) grid)

behind_there : (row : ℕ) (cells : List Cell) (grid : Grid) → row < length grid → row_at row (put_behind row cells grid) ≡ row_at row grid ++ cells
behind_there row [] grid within = sym (append-nil (row_at row grid))
behind_there row (cell ∷ cells) grid within =
    let change = put_all (length (row_at row grid)) (cell ∷ cells) in
    ap (λ z. row_at row (change_at row change z)) (extended_none [] (row + 1) grid (omega (arith, within)))
    ∙ changed_at row change grid within
    ∙ all_behind (cell ∷ cells) (row_at row grid)

-- a row and what it ends with
record EndsWith (cells row : List Cell) : Type 0 where
  front : List Cell
  is : row ≡ front ++ cells

-- a source's line ends its row
ends_row : (ui : Bool) (w row number : ℕ) (line : List ℕ) (grid : Grid) → EndsWith (in_style style.NoStyle line) (row_at row (source_drawn ui w row number line grid))
ends_row ui w row number line grid =
    let before = put_cell row (w + 2) (32, style.LineNumber) (put_cell row (w + 1) (124, style.LineNumber) (put_text row 0 (in_style style.LineNumber (chars (line_number ui number))) grid)) in
    record {
      front = row_at row before;
      is = behind_there row (in_style style.NoStyle line) before (row_there row (put (w + 2) (32, style.LineNumber)) _);
    }
