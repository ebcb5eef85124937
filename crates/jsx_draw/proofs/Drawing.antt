-- What is drawn step by step.
use Rattle.std.proofs.Common.{◌≡◌, ℕ, suc, ◌+◌, ◌-◌, ◌<◌, ◌≤◌, max, Bool, append_assoc, List, [], ◌∷◌, ◌++◌, map, length, take, drop, get_or, refl, ap, sym, ◌∙◌, arith}
use Rattle.std.specs.Prelude.{Result, Ok, Err, IfOk}
use Rattle.std.specs.declared.alloc.Global.{Global}
use Rattle.std.specs.declared.vec.Vec.{Vec}
use Rattle.std.proofs.lemmas.List.{append-nil, drop_all, length-map, map-append, take_all, take_more}
use Rattle.std.specs.Prelude.{codes}
use Rattle.std.specs.Str.{chars}
use Rattle.jsx_diag.specs.declared.level.Style.TheVariants as style
use Rattle.jsx_draw.specs.Grid.{Cell, Grid, in_style, put_cell, put_text}
use Rattle.jsx_draw.specs.Spots.{greatest}
use Rattle.jsx_draw.specs.Annotation.{Mark}
use Rattle.jsx_draw.specs.Drawn.{Columns, Downs, Edges, Labels, PlacedMark, Sides, Underlines, across, down, draw_open, drawn, frame, is_longer, layer_of, mark_row, marks_placed, row_behind, row_count, sorted_by, under_line}
use Rattle.jsx_draw.proofs.Orders.{sorted_seen, split_at, take_next}

drawn_last : {X : Type 0} (draw : X → Grid → Grid) (xs : List X) (x : X) (grid : Grid) → drawn draw (xs ++ x ∷ []) grid ≡ draw x (drawn draw xs grid)
drawn_last draw [] x grid = refl
drawn_last draw (y ∷ xs) x grid = drawn_last draw xs x (draw y grid)

pub drawn_next : {X Y : Type 0} (draw : Y → Grid → Grid) (f : X → Y) (xs : List X) (i : ℕ) (x : X) (old now new : Grid) → i < length xs → x ≡ get_or xs i x → now ≡ drawn draw (take i (map f xs)) old → new ≡ draw (f x) now → new ≡ drawn draw (take (i + 1) (map f xs)) old
drawn_next draw f xs i x old now new within at before is =
    is ∙ ap (draw (f x)) before ∙ sym (ap (λ z. drawn draw z old) (take_next f xs i x within at) ∙ drawn_last draw (take i (map f xs)) (f x) old)

pub drawn_whole : {X Y : Type 0} (draw : Y → Grid → Grid) (f : X → Y) (xs : List X) (i : ℕ) (old now : Grid) → length xs ≤ i → now ≡ drawn draw (take i (map f xs)) old → now ≡ drawn draw (map f xs) old
drawn_whole draw f xs i old now all is = is ∙ ap (λ z. drawn draw z old) (take_all i (map f xs) (omega (arith, all, length-map xs f)))

pub across_next : (row from col : ℕ) (cell : Cell) (old now new : Grid) → from ≤ col → now ≡ across row from (col - from) cell old → new ≡ put_cell row col cell now → new ≡ across row from (col + 1 - from) cell old
across_next row from col cell old now new low before is =
    is
    ∙ ap (put_cell row col cell) before
    ∙ ap (λ k. put_cell row k cell (across row from (col - from) cell old)) (let e : col ≡ from + (col - from) = omega (arith, low) in e)
    ∙ ap (λ n. across row from n cell old) (let e : suc (col - from) ≡ col + 1 - from = omega (arith, low) in e)

pub across_end : (row from to col : ℕ) (cell : Cell) (old now : Grid) → from ≤ col → to ≤ col → col ≤ max from to → now ≡ across row from (col - from) cell old → now ≡ across row from (to - from) cell old
across_end row from to col cell old now low all high is = is ∙ ap (λ n. across row from n cell old) (let e : col - from ≡ to - from = omega (arith, low, all, high) in e)

pub down_next : (col from row : ℕ) (cell : Cell) (old now new : Grid) → from ≤ row → now ≡ down col from (row - from) cell old → new ≡ put_cell row col cell now → new ≡ down col from (row + 1 - from) cell old
down_next col from row cell old now new low before is =
    is
    ∙ ap (put_cell row col cell) before
    ∙ ap (λ k. put_cell k col cell (down col from (row - from) cell old)) (let e : row ≡ from + (row - from) = omega (arith, low) in e)
    ∙ ap (λ n. down col from n cell old) (let e : suc (row - from) ≡ row + 1 - from = omega (arith, low) in e)

pub down_end : (col from to row : ℕ) (cell : Cell) (old now : Grid) → from ≤ row → to ≤ row → row ≤ max from to → now ≡ down col from (row - from) cell old → now ≡ down col from (to - from) cell old
down_end col from to row cell old now low all high is = is ∙ ap (λ n. down col from n cell old) (let e : row - from ≡ to - from = omega (arith, low, all, high) in e)

bar_chars : chars (codes "| ") ≡ codes "| "
unfolding chars
bar_chars = refl

pub frame_next : (col row : ℕ) (now new : Grid) → now ≡ frame col row → new ≡ put_text row col (in_style style.LineNumber (chars (codes "| "))) now → new ≡ frame col (row + 1)
frame_next col row now new before is =
    is
    ∙ ap (put_text row col (in_style style.LineNumber (chars (codes "| ")))) before
    ∙ ap (λ z. put_text row col (in_style style.LineNumber z) (frame col row)) bar_chars
    ∙ ap (frame col) (let e : suc row ≡ row + 1 = omega arith in e)

pub drawn_step : {X : Type 0} (draw : X → Grid → Grid) (xs : List X) (i : ℕ) (x : X) (old now new : Grid) → i < length xs → x ≡ get_or xs i x → now ≡ drawn draw (take i xs) old → new ≡ draw x now → new ≡ drawn draw (take (i + 1) xs) old
drawn_step draw xs i x old now new within at before is =
    is ∙ ap (draw x) before ∙ sym (ap (λ z. drawn draw z old) (take_more xs i x within ∙ ap (λ z. take i xs ++ z ∷ []) (sym at)) ∙ drawn_last draw (take i xs) x old)

pub drawn_rest : {X : Type 0} (draw : X → Grid → Grid) (xs : List X) (i : ℕ) (old now : Grid) → length xs ≤ i → now ≡ drawn draw (take i xs) old → now ≡ drawn draw xs old
drawn_rest draw xs i old now all is = is ∙ ap (λ z. drawn draw z old) (take_all i xs all)

-- ---- rows of labels

pub greatest_last : (xs : List ℕ) (x : ℕ) → greatest (xs ++ x ∷ []) ≡ max (greatest xs) x
greatest_last [] x = omega arith
greatest_last (y ∷ xs) x = ap (max y) (greatest_last xs x) ∙ (let e : max y (max (greatest xs) x) ≡ max (max y (greatest xs)) x = omega arith in e)

rows_seen : {X : Type 0} (f : X → PlacedMark) (xs : List X) → map (λ (it : PlacedMark). it.row) (map f xs) ≡ map (λ x. (f x).row) xs
rows_seen f [] = refl
rows_seen f (x ∷ xs) = ap (λ z. (f x).row ∷ z) (rows_seen f xs)

pub row_more : {X : Type 0} (f : X → PlacedMark) (xs : List X) (i now : ℕ) (x : X) → i < length xs → x ≡ get_or xs i x → now ≡ greatest (take i (map (λ (it : PlacedMark). it.row) (map f xs))) → max now (f x).row ≡ greatest (take (i + 1) (map (λ (it : PlacedMark). it.row) (map f xs)))
row_more f xs i now x within at before =
    ap (λ n. max n (f x).row) before
    ∙ sym (ap (λ z. greatest (take (i + 1) z)) (rows_seen f xs) ∙ ap greatest (take_next (λ y. (f y).row) xs i x within at) ∙ greatest_last (take i (map (λ y. (f y).row) xs)) (f x).row ∙ ap (λ z. max (greatest (take i z)) (f x).row) (sym (rows_seen f xs)))

-- ---- marks in order

pub seen_more : {X Y Z : Type 0} (view : X → Z) (f : Y → Z) (xs : List Y) (i : ℕ) (y : Y) (old new : List X) (x : X) → i < length xs → y ≡ get_or xs i y → view x ≡ f y → new ≡ old ++ x ∷ [] → map view old ≡ take i (map f xs) → map view new ≡ take (i + 1) (map f xs)
seen_more view f xs i y old new x within at same is before =
    ap (map view) is ∙ map-append view old (x ∷ []) ∙ ap (λ z. z ++ view x ∷ []) before ∙ ap (λ z. take i (map f xs) ++ z ∷ []) same ∙ sym (take_next f xs i y within at)

pub seen_all : {X Y Z : Type 0} (view : X → Z) (f : Y → Z) (xs : List Y) (i : ℕ) (now : List X) → length xs ≤ i → map view now ≡ take i (map f xs) → map view now ≡ map f xs
seen_all view f xs i now all is = is ∙ take_all i (map f xs) (omega (arith, all, length-map xs f))

pub sorted_if : {X Y E : Type 0} (before : X → X → Bool) (order : Y → Y → Bool) (f : X → Y) → ((a b : X) → before a b ≡ order (f a) (f b)) → (r : Result (Vec X Global) E) (items : List X) (ys : List Y) → IfOk r (λ v. v.items ≡ sorted_by before items) → map f items ≡ ys → IfOk r (λ v. map f v.items ≡ sorted_by order ys)
sorted_if before order f same (Ok v) items ys is are = ap (map f) is ∙ sorted_seen before order f same items ∙ ap (sorted_by order) are
sorted_if before order f same (Err e) items ys is are = tt

pub under_made : (at : Columns) (depths : List ℕ) (placed lines : List PlacedMark) (rows : ℕ) (g0 g1 g2 g3 g4 g5 g6 : Grid) → rows ≡ row_count placed → lines ≡ sorted_by is_longer placed → g0 ≡ frame (at.bars - 1) rows → g1 ≡ drawn (layer_of Edges at) placed g0 → g2 ≡ drawn (layer_of Downs at) placed g1 → g3 ≡ drawn (layer_of (Sides rows) at) placed g2 → g4 ≡ drawn (layer_of Labels at) placed g3 → g5 ≡ drawn (layer_of Underlines at) lines g4 → g6 ≡ drawn (draw_open at.bars rows) depths g5 → g6 ≡ under_line at depths placed
under_made at depths placed lines rows g0 g1 g2 g3 g4 g5 g6 count order e0 e1 e2 e3 e4 e5 e6 =
    e6
    ∙ ap (drawn (draw_open at.bars rows) depths)
    (e5 ∙ ap (drawn (layer_of Underlines at) lines)
    (e4 ∙ ap (drawn (layer_of Labels at) placed)
    (e3 ∙ ap (drawn (layer_of (Sides rows) at) placed)
    (e2 ∙ ap (drawn (layer_of Downs at) placed)
    (e1 ∙ ap (drawn (layer_of Edges at) placed) e0)))))
    ∙ ap (λ z. drawn (draw_open at.bars rows) depths (drawn (layer_of Underlines at) z (drawn (layer_of Labels at) placed (drawn (layer_of (Sides rows) at) placed (drawn (layer_of Downs at) placed (drawn (layer_of Edges at) placed (frame (at.bars - 1) rows))))))) order
    ∙ ap (λ n. drawn (draw_open at.bars n) depths (drawn (layer_of Underlines at) (sorted_by is_longer placed) (drawn (layer_of Labels at) placed (drawn (layer_of (Sides n) at) placed (drawn (layer_of Downs at) placed (drawn (layer_of Edges at) placed (frame (at.bars - 1) n))))))) count

pub placing_step : {X : Type 0} (seen : X → Mark) (items : List X) (i : ℕ) (x : X) (row0 next : ℕ) (placed new all : List PlacedMark) → i < length items → x ≡ get_or items i x → new ≡ placed ++ record { mark = seen x; row = mark_row row0 (seen x) (map seen (drop (i + 1) items)) } ∷ [] → next ≡ row_behind (mark_row row0 (seen x) (map seen (drop (i + 1) items))) (seen x) (map seen (drop (i + 1) items)) → placed ++ marks_placed row0 (map seen (drop i items)) ≡ all → new ++ marks_placed next (map seen (drop (i + 1) items)) ≡ all
placing_step seen items i x row0 next placed new all within at is next_is before =
    let later = map seen (drop (i + 1) items) in
    let row = mark_row row0 (seen x) later in
    ap (λ z. z ++ marks_placed next later) is
    ∙ append_assoc placed (record { mark = seen x; row = row } ∷ []) (marks_placed next later)
    ∙ ap (λ n. placed ++ record { mark = seen x; row = row } ∷ marks_placed n later) next_is
    ∙ sym (ap (λ z. placed ++ marks_placed row0 (map seen z)) (split_at items i x within at))
    ∙ before

pub placing_all : {X : Type 0} (seen : X → Mark) (items : List X) (i row : ℕ) (placed all : List PlacedMark) → length items ≤ i → placed ++ marks_placed row (map seen (drop i items)) ≡ all → placed ≡ all
placing_all seen items i row placed all end before = sym (append-nil placed) ∙ sym (ap (λ z. placed ++ marks_placed row (map seen z)) (drop_all i items end)) ∙ before
