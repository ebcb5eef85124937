-- Rows and grids that are extended and changed.
use Rattle.std.proofs.Common.{◌≡◌, ◌⊎◌, inl, inr, ⊎_elim, ℕ, min, zero, suc, ◌+◌, ◌-◌, ◌<◌, ◌≤◌, true, false, cond, List, [], ◌∷◌, ◌++◌, map, length, take, drop, get_or, set, max, refl, ap, sym, ◌∙◌, subst, arith, append_assoc, length-append}
use Rattle.std.specs.Prelude.{replicate, Result, Ok, Err, OnOk, OnErr}
use Rattle.std.specs.List.{flat_map}
use Rattle.std.specs.Str.{IsUtf8, chars, encode_utf8_all}
use Rattle.std.specs.Char.{encode_utf8}
use Rattle.std.proofs.lemmas.Str.{encodes-append, encodes_same, encodes-chars}
use Rattle.std.specs.declared.alloc.Global.{Global}
use Rattle.std.specs.declared.vec.Vec.{Vec}
use Rattle.std.proofs.lemmas.Bool.Decides.{leb_tells}
use Rattle.std.proofs.lemmas.Grind.{replicate_next}
use Rattle.std.proofs.lemmas.List.{append-nil, length-replicate, length-map, length_push, map-set, set_split, take_all, drop_all, get_or-map, map-append}
use Rattle.std.proofs.Math.Seq.{drop-cons, map-set_same, take-append_seam}
use Rattle.jsx_draw.specs.declared.styled_buffer.StyledString.{StyledString}
use Rattle.jsx_draw.specs.Grid.{Cell, Grid, Run, run_of, run_of_cell, same_style, grid_of, blank, extended, padded, put, put_all, change_at, change_first, change_from, with_rows, change_row, put_text, row_at, shown_cell, add_cell, add_cells, shown_row}

-- ---- lists that are extended

-- one was added again and again to the old list, at most until there are n
pub record Grown {X : Type 0} (x : X) (n : ℕ) (old now : List X) : Type 0 where
  pub is : now ≡ old ++ replicate (length now - length old) x
  pub low : length old ≤ length now
  pub high : length now ≤ max n (length old)

pub grown_none : {X : Type 0} (x : X) (n : ℕ) (xs : List X) → Grown x n xs xs
grown_none x n xs = record {
  is = sym (append-nil xs) ∙ ap (λ k. xs ++ replicate k x) (let e : 0 ≡ length xs - length xs = omega arith in e);
  low = omega arith;
  high = omega arith;
}

pub grown_more : {X : Type 0} (x : X) (n : ℕ) (old now new : List X) → length now < n → new ≡ now ++ x ∷ [] → Grown x n old now → Grown x n old new
grown_more x n old now new less is grown =
    let k = length now - length old in
    let long : length new ≡ length now + 1 = ap length is ∙ length_push now x in
    let low = grown.low in
    let high = grown.high in record {
      is =
          is
          ∙ ap (λ z. z ++ x ∷ []) grown.is
          ∙ append_assoc old (replicate k x) (x ∷ [])
          ∙ ap (λ z. old ++ z) (sym (replicate_next k x))
          ∙ ap (λ m. old ++ replicate m x) (let e : k + 1 ≡ length new - length old = omega (arith, long, low) in e);
      low = omega (arith, long, low);
      high = omega (arith, long, less);
    }

pub grown_all : {X : Type 0} (x : X) (n : ℕ) (old now : List X) → n ≤ length now → Grown x n old now → now ≡ extended x n old
grown_all x n old now all grown =
    let low = grown.low in
    let high = grown.high in
    grown.is ∙ ap (λ k. old ++ replicate k x) (let e : length now - length old ≡ n - length old = omega (arith, all, low, high) in e)

pub extended_none : {X : Type 0} (x : X) (n : ℕ) (xs : List X) → n ≤ length xs → extended x n xs ≡ xs
extended_none x n xs long = ap (λ k. xs ++ replicate k x) (let e : n - length xs ≡ 0 = omega arith in e) ∙ append-nil xs

pub extended_more : {X : Type 0} (x : X) (n : ℕ) (xs : List X) → length xs ≤ n → extended x (n + 1) xs ≡ extended x n xs ++ x ∷ []
extended_more x n xs short =
    ap (λ k. xs ++ replicate k x) (let e : n + 1 - length xs ≡ n - length xs + 1 = omega arith in e)
    ∙ ap (λ z. xs ++ z) (replicate_next (n - length xs) x)
    ∙ sym (append_assoc xs (replicate (n - length xs) x) (x ∷ []))

pub length-extended : {X : Type 0} (x : X) (n : ℕ) (xs : List X) → length (extended x n xs) ≡ max n (length xs)
length-extended x n xs = omega (arith, length-append xs (replicate (n - length xs) x), length-replicate (n - length xs) x)

-- ---- cells that are put

pub put_over : (col : ℕ) (cell : Cell) (row pad : List Cell) → pad ≡ padded col row → col < length pad → set pad col cell ≡ put col cell row
put_over col cell row pad is within =
    let long : col < length row = omega (arith, within, ap length is, length-extended blank col row) in
    let same : pad ≡ row = is ∙ extended_none blank col row (omega arith) in
    set_split pad col cell within
    ∙ ap (λ z. take col z ++ cell ∷ drop (suc col) pad) is
    ∙ ap (λ z. take col (padded col row) ++ cell ∷ drop (suc col) z) same
    ∙ ap (λ k. take col (padded col row) ++ cell ∷ drop k row) (let e : suc col ≡ col + 1 = omega arith in e)

pub put_behind_end : (col : ℕ) (cell : Cell) (row pad : List Cell) → pad ≡ padded col row → length pad ≤ col → pad ++ cell ∷ [] ≡ put col cell row
put_behind_end col cell row pad is behind =
    let short : length row ≤ col = omega (arith, behind, ap length is, length-extended blank col row) in
    ap (λ z. z ++ cell ∷ []) (sym (take_all col pad behind))
    ∙ ap (λ z. take col z ++ cell ∷ []) is
    ∙ ap (λ z. take col (padded col row) ++ cell ∷ z) (sym (drop_all (col + 1) row (omega arith)))

-- what was put, and then what is left, is all
pub record Putting (cells : List Cell) (col : ℕ) (begun : List Cell) (i at : ℕ) (row : List Cell) : Type 0 where
  pub whole : put_all at (drop i cells) row ≡ put_all col cells begun
  pub place : at ≡ col + i

pub putting_none : (cells : List Cell) (col : ℕ) (row : List Cell) → Putting cells col row 0 col row
putting_none cells col row = record { whole = refl; place = omega arith }

pub putting_more : (cells : List Cell) (col : ℕ) (begun : List Cell) (i at : ℕ) (row new : List Cell) (cell : Cell) → i < length cells → cell ≡ get_or cells i cell → new ≡ put at cell row → Putting cells col begun i at row → Putting cells col begun (i + 1) (at + 1) new
putting_more cells col begun i at row new cell within read is sofar =
    let left : drop i cells ≡ cell ∷ drop (i + 1) cells = drop-cons cells i cell within ∙ ap (λ z. z ∷ drop (suc i) cells) (sym read) ∙ ap (λ k. cell ∷ drop k cells) (let e : suc i ≡ i + 1 = omega arith in e) in
    let place = sofar.place in record {
      whole = ap (put_all (at + 1) (drop (i + 1) cells)) is ∙ sym (ap (λ z. put_all at z row) left) ∙ sofar.whole;
      place = omega (arith, place);
    }

pub putting_all : (cells : List Cell) (col : ℕ) (begun : List Cell) (i at : ℕ) (row : List Cell) → length cells ≤ i → Putting cells col begun i at row → row ≡ put_all col cells begun
putting_all cells col begun i at row all sofar = sym (ap (λ z. put_all at z row) (drop_all i cells all)) ∙ sofar.whole

-- ---- elements that are changed

pub change_at_set : {X : Type 0} (change : X → X) (xs : List X) (i : ℕ) (x : X) → i < length xs → x ≡ get_or xs i x → change_at i change xs ≡ set xs i (change x)
change_at_set change [] i x within read = absurd (omega arith)
change_at_set change (y ∷ xs) zero x within read = ap (λ z. change z ∷ xs) (sym read)
change_at_set change (y ∷ xs) (suc i) x within read = ap (λ z. y ∷ z) (change_at_set change xs i x (omega arith) read)

pub change_at_none : {X : Type 0} (change : X → X) (xs : List X) (i : ℕ) → length xs ≤ i → change_at i change xs ≡ xs
change_at_none change [] i past = refl
change_at_none change (y ∷ xs) zero past = absurd (omega arith)
change_at_none change (y ∷ xs) (suc i) past = ap (λ z. y ∷ z) (change_at_none change xs i (omega arith))

change_first_more : {X : Type 0} (change : X → X) (xs : List X) (n : ℕ) (d : X) → n < length xs → change_first (n + 1) change xs ≡ set (change_first n change xs) n (change (get_or (change_first n change xs) n d))
change_first_more change [] n d within = absurd (omega arith)
change_first_more change (x ∷ xs) zero d within = refl
change_first_more change (x ∷ xs) (suc n) d within =
    ap (λ k. change_first k change (x ∷ xs)) (let e : suc n + 1 ≡ suc (n + 1) = omega arith in e) ∙ ap (λ z. change x ∷ z) (change_first_more change xs n d (omega arith))

pub change_from_more : {X : Type 0} (change : X → X) (xs : List X) (left n : ℕ) (d : X) → left + n < length xs → change_from left (n + 1) change xs ≡ set (change_from left n change xs) (left + n) (change (get_or (change_from left n change xs) (left + n) d))
change_from_more change xs zero n d within =
    change_first_more change xs n d (omega arith) ∙ ap (λ k. set (change_first n change xs) k (change (get_or (change_first n change xs) k d))) (let e : n ≡ 0 + n = omega arith in e)
change_from_more change [] (suc left) n d within = absurd (omega arith)
change_from_more change (x ∷ xs) (suc left) n d within =
    ap (λ z. x ∷ z) (change_from_more change xs left n d (omega arith))
    ∙ ap (λ k. set (x ∷ change_from left n change xs) k (change (get_or (x ∷ change_from left n change xs) k d))) (let e : suc (left + n) ≡ suc left + n = omega arith in e)

change_first_past : {X : Type 0} (change : X → X) (xs : List X) (m n : ℕ) → length xs ≤ m → length xs ≤ n → change_first m change xs ≡ change_first n change xs
change_first_past change [] zero zero a b = refl
change_first_past change [] zero (suc n) a b = refl
change_first_past change [] (suc m) zero a b = refl
change_first_past change [] (suc m) (suc n) a b = refl
change_first_past change (x ∷ xs) zero n a b = absurd (omega arith)
change_first_past change (x ∷ xs) (suc m) zero a b = absurd (omega arith)
change_first_past change (x ∷ xs) (suc m) (suc n) a b = ap (λ z. change x ∷ z) (change_first_past change xs m n (omega arith) (omega arith))

-- how many are changed behind the end doesn't matter
pub change_from_past : {X : Type 0} (change : X → X) (xs : List X) (left m n : ℕ) → length xs ≤ left + m → length xs ≤ left + n → change_from left m change xs ≡ change_from left n change xs
change_from_past change xs zero m n a b = change_first_past change xs m n (omega arith) (omega arith)
change_from_past change [] (suc left) m n a b = refl
change_from_past change (x ∷ xs) (suc left) m n a b = ap (λ z. x ∷ z) (change_from_past change xs left m n (omega arith) (omega arith))

change_from_none : {X : Type 0} (change : X → X) (xs : List X) (left : ℕ) → change_from left 0 change xs ≡ xs
change_from_none change xs zero = refl
change_from_none change [] (suc left) = refl
change_from_none change (x ∷ xs) (suc left) = ap (λ z. x ∷ z) (change_from_none change xs left)

pub change_from_zero : {X : Type 0} (change : X → X) (xs : List X) (left n : ℕ) → n ≡ 0 → change_from left n change xs ≡ xs
change_from_zero change xs left n none = ap (λ k. change_from left k change xs) none ∙ change_from_none change xs left

-- ---- rows of a grid

pub grid-set : (rows : List (Vec Cell Global)) (line : ℕ) (row : Vec Cell Global) → grid_of (set rows line row) ≡ set (grid_of rows) line row.items
grid-set rows line row = map-set (λ (it : Vec Cell Global). it.items) rows line row

pub row_read : (rows : List (Vec Cell Global)) (line : ℕ) (row : Vec Cell Global) → line < length rows → row ≡ get_or rows line row → row.items ≡ get_or (grid_of rows) line row.items
row_read rows line row within read =
    sym (get_or-map (λ (it : Vec Cell Global). it.items) rows line row row.items within ∙ ap (λ (it : Vec Cell Global). it.items) (sym read))

-- a row that was changed in place
pub row_changed : (change : List Cell → List Cell) (rows : List (Vec Cell Global)) (line : ℕ) (row new : Vec Cell Global) → line < length rows → row ≡ get_or rows line row → new.items ≡ change row.items → grid_of (set rows line new) ≡ change_at line change (grid_of rows)
row_changed change rows line row new within read is =
    grid-set rows line new
    ∙ ap (set (grid_of rows) line) is
    ∙ sym (change_at_set change (grid_of rows) line row.items (omega (arith, length-map rows (λ (it : Vec Cell Global). it.items))) (row_read rows line row within read))

pub row_at_is : (grid : Grid) (line : ℕ) (row : List Cell) → line < length grid → row ≡ get_or grid line row → row_at line grid ≡ row
row_at_is [] line row within read = absurd (omega arith)
row_at_is (first ∷ grid) zero row within read = sym read
row_at_is (first ∷ grid) (suc line) row within read = row_at_is grid line row (omega arith) read

pub row_at_none : (grid : Grid) (line : ℕ) → length grid ≤ line → row_at line grid ≡ []
row_at_none [] line past = refl
row_at_none (first ∷ grid) zero past = absurd (omega arith)
row_at_none (first ∷ grid) (suc line) past = row_at_none grid line (omega arith)

pub put_text_some : (line col : ℕ) (cells : List Cell) (grid : Grid) → 0 < length cells → put_text line col cells grid ≡ change_row line (put_all col cells) grid
put_text_some line col [] grid some = absurd (omega arith)
put_text_some line col (cell ∷ cells) grid some = refl

pub put_text_none : (line col : ℕ) (cells : List Cell) (grid : Grid) → length cells ≡ 0 → put_text line col cells grid ≡ grid
put_text_none line col [] grid none = refl
put_text_none line col (cell ∷ cells) grid none = absurd (omega arith)

-- ---- what is shown

pub add_last : (runs : List Run) (run : Run) (cell : Cell) → add_cell (runs ++ run ∷ []) cell ≡ runs ++ add_cell (run ∷ []) cell
add_last [] run cell = refl
add_last (first ∷ []) run cell = refl
add_last (first ∷ next ∷ more) run cell = ap (λ z. first ∷ z) (add_last (next ∷ more) run cell)

pub add_cells-append : (runs : List Run) (xs ys : List Cell) → add_cells runs (xs ++ ys) ≡ add_cells (add_cells runs xs) ys
add_cells-append runs [] ys = refl
add_cells-append runs (x ∷ xs) ys = add_cells-append (add_cell runs x) xs ys

-- what was shown, and then what is left, is the row
abbrev pub Showing : List Cell → ℕ → List Run → Type 0
Showing row i runs = add_cells runs (flat_map shown_cell (drop i row)) ≡ shown_row row

pub showing_more : (row : List Cell) (i : ℕ) (cell : Cell) (old new : List Run) → i < length row → cell ≡ get_or row i cell → new ≡ add_cells old (shown_cell cell) → Showing row i old → Showing row (i + 1) new
showing_more row i cell old new within read is sofar =
    let left : drop i row ≡ cell ∷ drop (i + 1) row = drop-cons row i cell within ∙ ap (λ z. z ∷ drop (suc i) row) (sym read) ∙ ap (λ k. cell ∷ drop k row) (let e : suc i ≡ i + 1 = omega arith in e) in
    ap (λ z. add_cells z (flat_map shown_cell (drop (i + 1) row))) is
    ∙ sym (add_cells-append old (shown_cell cell) (flat_map shown_cell (drop (i + 1) row)))
    ∙ sym (ap (λ z. add_cells old (flat_map shown_cell z)) left)
    ∙ sofar

pub showing_all : (row : List Cell) (i : ℕ) (runs : List Run) → length row ≤ i → Showing row i runs → runs ≡ shown_row row
showing_all row i runs all sofar = sym (ap (λ z. add_cells runs (flat_map shown_cell z)) (drop_all i row all)) ∙ sofar

pub grid-push : (rows new : List (Vec Cell Global)) (row : Vec Cell Global) (cells : List Cell) → new ≡ rows ++ row ∷ [] → row.items ≡ cells → grid_of new ≡ grid_of rows ++ cells ∷ []
grid-push rows new row cells is cells_are =
    ap grid_of is ∙ map-append (λ (it : Vec Cell Global). it.items) rows (row ∷ []) ∙ ap (λ z. grid_of rows ++ z ∷ []) cells_are

pub length-grid : (rows : List (Vec Cell Global)) → length (grid_of rows) ≡ length rows
length-grid rows = length-map rows (λ (it : Vec Cell Global). it.items)

-- a character behind a text
pub pushed_char : (old new : List ℕ) (c : ℕ) → IsUtf8 old → IsUtf8 new → new ≡ old ++ encode_utf8 c → chars new ≡ chars old ++ c ∷ []
pushed_char old new c utf8 utf8_new is =
    encodes_same (chars new) (chars old ++ c ∷ [])
    (encodes-chars new utf8_new ∙ is
    ∙ ap (λ z. z ++ encode_utf8 c) (sym (encodes-chars old utf8))
    ∙ ap (λ z. encode_utf8_all (chars old) ++ z) (sym (append-nil (encode_utf8 c)))
    ∙ sym (encodes-append (chars old) (c ∷ [])))

pub on_ok : {T E : Type 0} (r : Result T E) (P : Type 0) → P → OnOk r P
on_ok (Ok x) P holds = holds
on_ok (Err e) P holds = tt

pub on_err : {T E : Type 0} (r : Result T E) (P : Type 0) → P → OnErr r P
on_err (Ok x) P holds = tt
on_err (Err e) P holds = holds

-- a row in whose place one with the same cells stands
pub row_kept : (rows : List (Vec Cell Global)) (line : ℕ) (row new : Vec Cell Global) → row ≡ get_or rows line row → new.items ≡ row.items → grid_of (set rows line new) ≡ grid_of rows
row_kept rows line row new read is =
    map-set_same (λ (it : Vec Cell Global). it.items) rows line new row (is ∙ ap (λ (it : Vec Cell Global). it.items) read)

row_at-replicate : (line n : ℕ) → row_at line (replicate n []) ≡ []
row_at-replicate line zero = refl
row_at-replicate zero (suc n) = refl
row_at-replicate (suc line) (suc n) = row_at-replicate line n

-- the rows that were added are empty
row_at-extended : (grid : Grid) (line n : ℕ) → row_at line (extended [] n grid) ≡ row_at line grid
row_at-extended [] line n = row_at-replicate line (n - 0)
row_at-extended (row ∷ grid) zero n = refl
row_at-extended (row ∷ grid) (suc line) n =
    ap (λ k. row_at line (grid ++ replicate k [])) (let e : n - suc (length grid) ≡ (n - 1) - length grid = omega arith in e) ∙ row_at-extended grid line (n - 1)

change_at_row : (change : List Cell → List Cell) (grid : Grid) (line : ℕ) → line < length grid → change_at line change grid ≡ set grid line (change (row_at line grid))
change_at_row change [] line within = absurd (omega arith)
change_at_row change (row ∷ grid) zero within = refl
change_at_row change (row ∷ grid) (suc line) within = ap (λ z. row ∷ z) (change_at_row change grid line (omega arith))

-- a row in whose place its cells behind others stand
pub row_replaced : (rows : List (Vec Cell Global)) (grid : Grid) (line : ℕ) (cells : List Cell) (new : Vec Cell Global) → line < length rows → grid_of rows ≡ with_rows (line + 1) grid → new.items ≡ cells ++ row_at line grid → grid_of (set rows line new) ≡ change_row line (λ row. cells ++ row) grid
row_replaced rows grid line cells new within made is =
    let wide : line < length (with_rows (line + 1) grid) = omega (arith, within, length-map rows (λ (it : Vec Cell Global). it.items), ap length made) in
    map-set (λ (it : Vec Cell Global). it.items) rows line new
    ∙ ap (λ z. set z line new.items) made
    ∙ ap (set (with_rows (line + 1) grid) line) (is ∙ ap (λ z. cells ++ z) (sym (row_at-extended grid line (line + 1))))
    ∙ sym (change_at_row (λ row. cells ++ row) (with_rows (line + 1) grid) line wide)

-- one more cell is changed
pub restyled_more : (change : Cell → Cell) (xs row : List Cell) (begin col : ℕ) (d cell : Cell) → begin ≤ col → col < length xs → row ≡ change_from begin (col - begin) change xs → cell ≡ change (get_or row col d) → set row col cell ≡ change_from begin (col + 1 - begin) change xs
restyled_more change xs row begin col d cell order within sofar is =
    let n = col - begin in
    let at : begin + n ≡ col = omega arith in
    ap (set row col) is
    ∙ ap (λ z. set z col (change (get_or z col d))) sofar
    ∙ ap (λ k. set (change_from begin n change xs) k (change (get_or (change_from begin n change xs) k d))) (sym at)
    ∙ sym (change_from_more change xs begin n d (omega (arith, at, within)))
    ∙ ap (λ k. change_from begin k change xs) (let e : n + 1 ≡ col + 1 - begin = omega arith in e)

-- where a loop over the columns ends: behind the last that is changed, or at the end of the row
pub columns_end : (begin n most end col size : ℕ) → size ≤ most → end ≡ min (min (begin + n) most) size → begin ≤ col → end ≤ col → (begin ≤ end → col ≤ end) → (col - begin ≡ n) ⊎ ((size ≤ begin + (col - begin)) × (size ≤ begin + n))
columns_end begin n most end col size bound is order last first =
    ⊎_elim
    (λ e. inl (omega (arith, e.1, bound, is, order, last, first)))
    (λ e. inr (omega (arith, e.1, bound, is, order, last), omega (arith, e.1)))
    (leb_tells (begin + n) size)

-- all of them are
pub restyled_all : (change : Cell → Cell) (xs row : List Cell) (begin col n : ℕ) → (col - begin ≡ n) ⊎ ((length xs ≤ begin + (col - begin)) × (length xs ≤ begin + n)) → row ≡ change_from begin (col - begin) change xs → row ≡ change_from begin n change xs
restyled_all change xs row begin col n ends sofar =
    sofar ∙ ⊎_elim (λ e. ap (λ k. change_from begin k change xs) e) (λ e. change_from_past change xs begin (col - begin) n e.0 e.1) ends

-- ---- runs in memory

-- the last run was changed
pub last_joins : (old rest new : List StyledString) (last joined : StyledString) (cell : Cell) → old ≡ rest ++ last ∷ [] → new ≡ rest ++ joined ∷ [] → add_cell (run_of last ∷ []) cell ≡ run_of joined ∷ [] → map run_of new ≡ add_cell (map run_of old) cell
last_joins old rest new last joined cell old_is new_is joins =
    ap (map run_of) new_is
    ∙ map-append run_of rest (joined ∷ [])
    ∙ ap (λ z. map run_of rest ++ z) (sym joins)
    ∙ sym (add_last (map run_of rest) (run_of last) cell)
    ∙ sym (ap (λ z. add_cell z cell) (ap (map run_of) old_is ∙ map-append run_of rest (last ∷ [])))

-- one was added behind it
pub last_stays : (old rest back new : List StyledString) (last next : StyledString) (cell : Cell) → old ≡ rest ++ last ∷ [] → back ≡ rest ++ last ∷ [] → new ≡ back ++ next ∷ [] → add_cell (run_of last ∷ []) cell ≡ run_of last ∷ run_of next ∷ [] → map run_of new ≡ add_cell (map run_of old) cell
last_stays old rest back new last next cell old_is back_is new_is stays =
    ap (map run_of) (new_is ∙ ap (λ z. z ++ next ∷ []) back_is ∙ append_assoc rest (last ∷ []) (next ∷ []))
    ∙ map-append run_of rest (last ∷ next ∷ [])
    ∙ ap (λ z. map run_of rest ++ z) (sym stays)
    ∙ sym (add_last (map run_of rest) (run_of last) cell)
    ∙ sym (ap (λ z. add_cell z cell) (ap (map run_of) old_is ∙ map-append run_of rest (last ∷ [])))

pub same_joins : (last joined : Run) (cell : Cell) → same_style last.style cell.1 ≡ true → joined.text ≡ last.text ++ cell.0 ∷ [] → joined.style ≡ last.style → add_cell (last ∷ []) cell ≡ joined ∷ []
same_joins last joined cell same text style =
    ap (λ b. cond b (record last { text = last.text ++ cell.0 ∷ [] } ∷ []) (last ∷ run_of_cell cell ∷ [])) same
    ∙ ap (λ z. record { text = z; style = last.style } ∷ []) (sym text)
    ∙ ap (λ z. record { text = joined.text; style = z } ∷ []) (sym style)

pub other_stays : (last next : Run) (cell : Cell) → same_style last.style cell.1 ≡ false → next ≡ run_of_cell cell → add_cell (last ∷ []) cell ≡ last ∷ next ∷ []
other_stays last next cell other is =
    ap (λ b. cond b (record last { text = last.text ++ cell.0 ∷ [] } ∷ []) (last ∷ run_of_cell cell ∷ [])) other ∙ ap (λ z. last ∷ z ∷ []) (sym is)

-- a list that was lent and written back
pub written_back : {X : Type 0} (now old : List X) (n : ℕ) → length now ≡ n → take n (now ++ drop (length now) old) ≡ now
written_back now old n e = subst (λ m. take m (now ++ drop (length now) old) ≡ now) e (take-append_seam now (drop (length now) old))
