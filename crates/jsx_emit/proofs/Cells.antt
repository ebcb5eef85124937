-- Which cells of a grid hold what, once more is drawn.
use Rattle.std.proofs.Common.{◌≡◌, ◌⊎◌, inl, inr, ⊎_elim, ℕ, zero, suc, ◌+◌, ◌-◌, ◌<◌, ◌≤◌, List, [], ◌∷◌, ◌++◌, Some, length, take, drop, refl, ap, sym, ◌∙◌, subst, arith}
use Rattle.std.specs.Prelude.{replicate, slice_get}
use Rattle.std.specs.Option.{option_map}
use Rattle.std.proofs.lemmas.List.{length-take-le}
use Rattle.std.proofs.lemmas.Option.{slice_get-map}
use Rattle.jsx_draw.specs.Grid.{Cell, Grid, blank, padded, put, put_all, change_at, with_rows, change_row, put_cell, put_text, row_at}
use Rattle.jsx_emit.specs.Shows.{cell_at}
use Rattle.jsx_emit.specs.Written.{grid_chars}
use Rattle.jsx_draw.specs.Drawn.{across}
use Rattle.jsx_draw.proofs.Grids.{length-extended}

-- ---- lists

got_left : {X : Type 0} (xs ys : List X) (i : ℕ) (x : X) → slice_get xs i ≡ Some x → slice_get (xs ++ ys) i ≡ Some x
got_left [] ys i x e = cc
got_left (y ∷ xs) ys zero x e = e
got_left (y ∷ xs) ys (suc i) x e = got_left xs ys i x e

got_right : {X : Type 0} (xs ys : List X) (i n : ℕ) → n ≡ length xs + i → slice_get (xs ++ ys) n ≡ slice_get ys i
got_right [] ys i n e = ap (slice_get ys) (let p : n ≡ i = omega (arith, e) in p)
got_right (y ∷ xs) ys i zero e = absurd (omega arith)
got_right (y ∷ xs) ys i (suc n) e = got_right xs ys i n (omega arith)

got_taken : {X : Type 0} (n : ℕ) (xs : List X) (i : ℕ) → i < n → slice_get (take n xs) i ≡ slice_get xs i
got_taken zero xs i less = absurd (omega arith)
got_taken (suc n) [] i less = refl
got_taken (suc n) (x ∷ xs) zero less = refl
got_taken (suc n) (x ∷ xs) (suc i) less = got_taken n xs i (omega arith)

got_dropped : {X : Type 0} (n : ℕ) (xs : List X) (i m : ℕ) → m ≡ n + i → slice_get (drop n xs) i ≡ slice_get xs m
got_dropped zero xs i m e = ap (slice_get xs) (let p : i ≡ m = omega (arith, e) in p)
got_dropped (suc n) [] i m e = refl
got_dropped (suc n) (x ∷ xs) i zero e = absurd (omega arith)
got_dropped (suc n) (x ∷ xs) i (suc m) e = got_dropped n xs i m (omega arith)

-- ---- rows

-- a row has a character at a column
pub record HasCell (c ch : ℕ) (row : List Cell) : Type 0 where
  pub cell : Cell
  pub got : slice_get row c ≡ Some cell
  pub is : cell.0 ≡ ch

taken_long : (col : ℕ) (row : List Cell) → length (take col (padded col row)) ≡ col
taken_long col row = length-take-le col (padded col row) (omega (arith, length-extended blank col row))

put_new : (col : ℕ) (cell : Cell) (row : List Cell) → HasCell col cell.0 (put col cell row)
put_new col cell row = record { cell = cell; got = got_right (take col (padded col row)) (cell ∷ drop (col + 1) row) 0 col (omega (arith, taken_long col row)); is = refl }

put_keeps : (col : ℕ) (new : Cell) (row : List Cell) (c ch : ℕ) → c < col ⊎ col < c → HasCell c ch row → HasCell c ch (put col new row)
put_keeps col new row c ch (inl before) it = record {
  cell = it.cell;
  got =
      got_left (take col (padded col row)) (new ∷ drop (col + 1) row) c it.cell
      (got_taken col (padded col row) c before ∙ got_left row (replicate (col - length row) blank) c it.cell it.got);
  is = it.is;
}
put_keeps col new row c ch (inr behind) it = record {
  cell = it.cell;
  got =
      got_right (take col (padded col row)) (new ∷ drop (col + 1) row) (suc (c - (col + 1))) c (omega (arith, behind, taken_long col row))
      ∙ got_dropped (col + 1) row (c - (col + 1)) c (omega (arith, behind))
      ∙ it.got;
  is = it.is;
}

all_keeps : (cells : List Cell) (col : ℕ) (row : List Cell) (c ch : ℕ) → c < col ⊎ col + length cells ≤ c → HasCell c ch row → HasCell c ch (put_all col cells row)
all_keeps [] col row c ch apart it = it
all_keeps (cell ∷ cells) col row c ch (inl before) it = all_keeps cells (col + 1) (put col cell row) c ch (inl (omega (arith, before))) (put_keeps col cell row c ch (inl before) it)
all_keeps (cell ∷ cells) col row c ch (inr behind) it = all_keeps cells (col + 1) (put col cell row) c ch (inr (omega (arith, behind))) (put_keeps col cell row c ch (inr (omega (arith, behind))) it)

all_new : (cells : List Cell) (col : ℕ) (row : List Cell) (k c : ℕ) (cell : Cell) → slice_get cells k ≡ Some cell → c ≡ col + k → HasCell c cell.0 (put_all col cells row)
all_new [] col row k c cell e at = cc
all_new (x ∷ cells) col row zero c cell e at =
    let same : x ≡ cell = cc in
    all_keeps cells (col + 1) (put col x row) c cell.0 (inl (omega (arith, at))) (subst (λ n. HasCell n cell.0 (put col x row)) (let p : col ≡ c = omega (arith, at) in p) (subst (λ (z : Cell). HasCell col z.0 (put col x row)) same (put_new col x row)))
all_new (x ∷ cells) col row (suc k) c cell e at = all_new cells (col + 1) (put col x row) k c cell e (omega (arith, at))

-- ---- grids

-- a grid has a character at a place
abbrev pub HasAt : ℕ → ℕ → ℕ → Grid → Type 0
HasAt r c ch grid = HasCell c ch (row_at r grid)

row_behind : (r n : ℕ) (grid : Grid) → row_at r (grid ++ replicate n []) ≡ row_at r grid
row_behind r zero [] = refl
row_behind zero (suc n) [] = refl
row_behind (suc r) (suc n) [] = row_behind r n []
row_behind zero n (row ∷ grid) = refl
row_behind (suc r) n (row ∷ grid) = row_behind r n grid

changed_row : (r : ℕ) (change : List Cell → List Cell) (grid : Grid) → r < length grid → row_at r (change_at r change grid) ≡ change (row_at r grid)
changed_row r change [] within = absurd (omega arith)
changed_row zero change (row ∷ grid) within = refl
changed_row (suc r) change (row ∷ grid) within = changed_row r change grid (omega arith)

other_row : (r other : ℕ) (change : List Cell → List Cell) (grid : Grid) → r < other ⊎ other < r → row_at other (change_at r change grid) ≡ row_at other grid
other_row r other change [] apart = refl
other_row zero zero change (row ∷ grid) (inl less) = absurd (omega arith)
other_row zero zero change (row ∷ grid) (inr less) = absurd (omega arith)
other_row zero (suc other) change (row ∷ grid) apart = refl
other_row (suc r) zero change (row ∷ grid) apart = refl
other_row (suc r) (suc other) change (row ∷ grid) (inl less) = other_row r other change grid (inl (omega arith))
other_row (suc r) (suc other) change (row ∷ grid) (inr less) = other_row r other change grid (inr (omega arith))

row_here : (r : ℕ) (change : List Cell → List Cell) (grid : Grid) → row_at r (change_row r change grid) ≡ change (row_at r grid)
row_here r change grid =
    changed_row r change (with_rows (r + 1) grid) (omega (arith, length-extended {X = List Cell} [] (r + 1) grid))
    ∙ ap change (row_behind r (r + 1 - length grid) grid)

row_there : (r other : ℕ) (change : List Cell → List Cell) (grid : Grid) → r < other ⊎ other < r → row_at other (change_row r change grid) ≡ row_at other grid
row_there r other change grid apart = other_row r other change (with_rows (r + 1) grid) apart ∙ row_behind other (r + 1 - length grid) grid

-- whether one place is another
pub same_or_apart : (a b : ℕ) → (a ≡ b) ⊎ (a < b ⊎ b < a)
same_or_apart zero zero = inl refl
same_or_apart zero (suc b) = inr (inl (omega arith))
same_or_apart (suc a) zero = inr (inr (omega arith))
same_or_apart (suc a) (suc b) =
    ⊎_elim (λ e. inl (ap suc e)) (λ apart. ⊎_elim (λ less. inr (inl (omega (arith, less)))) (λ less. inr (inr (omega (arith, less)))) apart) (same_or_apart a b)

-- a text that is put elsewhere changes no place
pub text_keeps_row : (row col : ℕ) (cells : List Cell) (grid : Grid) (r c ch : ℕ) → row < r ⊎ r < row → HasAt r c ch grid → HasAt r c ch (put_text row col cells grid)
text_keeps_row row col [] grid r c ch apart it = it
text_keeps_row row col (cell ∷ cells) grid r c ch apart it = subst (HasCell c ch) (sym (row_there row r (put_all col (cell ∷ cells)) grid apart)) it

pub text_keeps : (row col : ℕ) (cells : List Cell) (grid : Grid) (c ch : ℕ) → c < col ⊎ col + length cells ≤ c → HasAt row c ch grid → HasAt row c ch (put_text row col cells grid)
text_keeps row col [] grid c ch apart it = it
text_keeps row col (cell ∷ cells) grid c ch apart it =
    subst (HasCell c ch) (sym (row_here row (put_all col (cell ∷ cells)) grid)) (all_keeps (cell ∷ cells) col (row_at row grid) c ch apart it)

pub text_new : (row col : ℕ) (cells : List Cell) (grid : Grid) (k c : ℕ) (cell : Cell) → slice_get cells k ≡ Some cell → c ≡ col + k → HasAt row c cell.0 (put_text row col cells grid)
text_new row col [] grid k c cell e at = cc
text_new row col (x ∷ cells) grid k c cell e at =
    subst (HasCell c cell.0) (sym (row_here row (put_all col (x ∷ cells)) grid)) (all_new (x ∷ cells) col (row_at row grid) k c cell e at)

cell_keeps_row : (row col : ℕ) (cell : Cell) (grid : Grid) (r c ch : ℕ) → row < r ⊎ r < row → HasAt r c ch grid → HasAt r c ch (put_cell row col cell grid)
cell_keeps_row row col cell grid r c ch apart it = subst (HasCell c ch) (sym (row_there row r (put col cell) grid apart)) it

cell_keeps : (row col : ℕ) (cell : Cell) (grid : Grid) (c ch : ℕ) → c < col ⊎ col < c → HasAt row c ch grid → HasAt row c ch (put_cell row col cell grid)
cell_keeps row col cell grid c ch apart it = subst (HasCell c ch) (sym (row_here row (put col cell) grid)) (put_keeps col cell (row_at row grid) c ch apart it)

cell_new : (row col : ℕ) (cell : Cell) (grid : Grid) → HasAt row col cell.0 (put_cell row col cell grid)
cell_new row col cell grid = subst (HasCell col cell.0) (sym (row_here row (put col cell) grid)) (put_new col cell (row_at row grid))

-- the same of a run of cells
pub across_keeps_row : (row from n : ℕ) (cell : Cell) (grid : Grid) (r c ch : ℕ) → row < r ⊎ r < row → HasAt r c ch grid → HasAt r c ch (across row from n cell grid)
across_keeps_row row from zero cell grid r c ch apart it = it
across_keeps_row row from (suc n) cell grid r c ch apart it = cell_keeps_row row (from + n) cell (across row from n cell grid) r c ch apart (across_keeps_row row from n cell grid r c ch apart it)

pub across_keeps : (row from n : ℕ) (cell : Cell) (grid : Grid) (c ch : ℕ) → c < from ⊎ from + n ≤ c → HasAt row c ch grid → HasAt row c ch (across row from n cell grid)
across_keeps row from zero cell grid c ch apart it = it
across_keeps row from (suc n) cell grid c ch (inl before) it = cell_keeps row (from + n) cell (across row from n cell grid) c ch (inl (omega (arith, before))) (across_keeps row from n cell grid c ch (inl before) it)
across_keeps row from (suc n) cell grid c ch (inr behind) it = cell_keeps row (from + n) cell (across row from n cell grid) c ch (inr (omega (arith, behind))) (across_keeps row from n cell grid c ch (inr (omega (arith, behind))) it)

across_last : (row from n : ℕ) (cell : Cell) (grid : Grid) (c : ℕ) → from ≤ c → c < from + suc n → ((c < from + n) → HasAt row c cell.0 (across row from n cell grid)) → HasAt row c cell.0 (across row from (suc n) cell grid)
across_last row from n cell grid c low high before =
    ⊎_elim
    (λ e. subst (λ k. HasAt row k cell.0 (across row from (suc n) cell grid)) (sym e) (cell_new row (from + n) cell (across row from n cell grid)))
    (λ apart. ⊎_elim (λ less. cell_keeps row (from + n) cell (across row from n cell grid) c cell.0 (inl less) (before less)) (λ more. absurd (let no : ⊥ = omega (arith, more, high) in no)) apart)
    (same_or_apart c (from + n))

pub across_new : (row from n : ℕ) (cell : Cell) (grid : Grid) (c : ℕ) → from ≤ c → c < from + n → HasAt row c cell.0 (across row from n cell grid)
across_new row from zero cell grid c low high = absurd (let no : ⊥ = omega (arith, low, high) in no)
across_new row from (suc n) cell grid c low high = across_last row from n cell grid c low high (λ less. across_new row from n cell grid c low less)

-- ---- what is seen of a grid, with any rows below

got_row : (r c ch : ℕ) (grid : Grid) (rest : List (List ℕ)) → HasAt r c ch grid → cell_at (grid_chars grid ++ rest) r c ≡ Some ch
got_row r c ch [] rest it = let none : slice_get {X = Cell} [] c ≡ Some it.cell = it.got in cc
got_row zero c ch (row ∷ grid) rest it = slice_get-map (λ (z : Cell). z.0) row c ∙ ap (option_map (λ (z : Cell). z.0)) it.got ∙ ap Some it.is
got_row (suc r) c ch (row ∷ grid) rest it = got_row r c ch grid rest it

pub seen : (r c ch : ℕ) (grid : Grid) (rest : List (List ℕ)) → HasAt r c ch grid → cell_at (grid_chars grid ++ rest) r c ≡ Some ch
seen r c ch grid rest it = got_row r c ch grid rest it
