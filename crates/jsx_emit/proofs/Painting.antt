-- Under a line whose spans all lie on one line: the marks of the spans, and their labels.
use Rattle.std.proofs.Common.{◌≡◌, ◌⊎◌, inl, inr, ⊎_elim, ℕ, zero, suc, ◌+◌, ◌-◌, ◌<◌, ◌≤◌, Bool, true, false, not, ◌&&◌, ◌||◌, cond, nat_eq, nat_le, nat_lt, List, [], ◌∷◌, ◌++◌, Option, Some, None, map, filter, length, true≢false, refl, ap, sym, ◌∙◌, subst, arith, append_assoc}
use Rattle.std.specs.Prelude.{slice_get}
use Rattle.std.specs.List.{list_all, list_any, range_with_len}
use Rattle.std.specs.Option.{option_eq, option_map}
use Rattle.std.proofs.lemmas.Option.{slice_get-map}
use Rattle.std.proofs.lemmas.Bool.Decides.{nat_tests, leb_tells}
use Rattle.std.proofs.lemmas.List.{length-map, map-append}
use Rattle.jsx_diag.specs.Data.{Text}
use Rattle.jsx_draw.specs.Annotation.{Mark, has_text}
use Rattle.jsx_draw.specs.Grid.{Grid, in_style, put_text}
use Rattle.jsx_draw.specs.Spots.{Spot, end_col, label_bytes, start_col}
use Rattle.jsx_emit.specs.Layout.{Placed, covers, falling, falling_put, is_covered, is_no_shorter, is_text, label_chars, label_col, label_row, mark_of, may_be_hidden, may_mark, meets, occupies, overlaps, placed, placed_from, row_after, row_from}
use Rattle.jsx_emit.specs.Shows.{Marked, cell_at, columns, has_cell, has_label, is_marked, is_some_of}
use Rattle.jsx_emit.specs.Written.{grid_chars}
use Rattle.jsx_draw.specs.Drawn.{Columns, Edges, Downs, Labels, Underlines, PlacedMark, begins_later, draw_label, draw_underline, drawn, frame, is_longer, row_count, under_line, Sides, laid_out, layer_of, mark_overlaps, mark_row, marks_meet, marks_placed, put_by, row_behind, single_mark, sorted_by, label_style, underline}
use Rattle.jsx_emit.proofs.Cells.{HasAt, across_keeps, across_keeps_row, across_new, same_or_apart, seen, text_keeps, text_keeps_row, text_new}
use Rattle.jsx_emit.proofs.Children.{not_zero}

-- ---- the same layout of spans and of marks

abbrev pub placed_mark : Placed → PlacedMark
placed_mark it = record { mark = single_mark it.spot; row = it.row }

put_cases : {X Y : Type 0} (f : X → Y) (b : Bool) (x y : X) (put xs : List X) → map f (cond b (x ∷ y ∷ xs) (y ∷ put)) ≡ cond b (f x ∷ f y ∷ map f xs) (f y ∷ map f put)
put_cases f true x y put xs = refl
put_cases f false x y put xs = refl

falling_put_same : (spot : Spot) (spots : List Spot) → map single_mark (falling_put spot spots) ≡ put_by begins_later (single_mark spot) (map single_mark spots)
falling_put_same spot [] = refl
falling_put_same spot (next ∷ more) =
    put_cases single_mark (nat_le (start_col next) (start_col spot)) spot next (falling_put spot more) more
    ∙ ap (λ z. cond (nat_le (start_col next) (start_col spot)) (single_mark spot ∷ single_mark next ∷ map single_mark more) (single_mark next ∷ z)) (falling_put_same spot more)

falling_same : (spots : List Spot) → map single_mark (falling spots) ≡ sorted_by begins_later (map single_mark spots)
falling_same [] = refl
falling_same (spot ∷ more) = falling_put_same spot (falling more) ∙ ap (put_by begins_later (single_mark spot)) (falling_same more)

text_same : (label : Option Text) → has_text label ≡ is_text label
text_same None = refl
text_same (Some []) = refl
text_same (Some (b ∷ text)) = ap not (not_zero (length (b ∷ text)) (omega arith))

no_text : (label : Option Text) → has_text label ≡ is_text label
no_text label = text_same label

meets_same : (p : ℕ) (spot later : Spot) → marks_meet p (single_mark spot) (single_mark later) ≡ meets p spot later
meets_same p spot later =
    ap (λ b. b && (mark_overlaps (length (label_bytes later.label) + 2) (single_mark later) (single_mark spot) && (has_text spot.label || (nat_eq p 0 && nat_le (end_col later) (end_col spot))))) (text_same later.label)
    ∙ ap (λ b. is_text later.label && (mark_overlaps (length (label_bytes later.label) + 2) (single_mark later) (single_mark spot) && (b || (nat_eq p 0 && nat_le (end_col later) (end_col spot))))) (text_same spot.label)

any_same : {X Y : Type 0} (p : Y → Bool) (q : X → Bool) (f : X → Y) → ((x : X) → p (f x) ≡ q x) → (xs : List X) → list_any p (map f xs) ≡ list_any q xs
any_same p q f same [] = refl
any_same p q f same (x ∷ xs) = ap (λ b. b || list_any p (map f xs)) (same x) ∙ ap (λ b. q x || b) (any_same p q f same xs)

row_same : (p : ℕ) (spot : Spot) (later : List Spot) → mark_row p (single_mark spot) (map single_mark later) ≡ row_from p spot later
row_same p spot later =
    ap (λ b. cond (nat_eq p 0 && (b && list_any (λ other. mark_overlaps 0 other (single_mark spot)) (map single_mark later))) 1 p) (text_same spot.label)
    ∙ ap (λ b. cond (nat_eq p 0 && (is_text spot.label && b)) 1 p) (any_same (λ other. mark_overlaps 0 other (single_mark spot)) (λ other. overlaps 0 other spot) single_mark (λ other. refl) later)

behind_same : (p : ℕ) (spot : Spot) (later : List Spot) → row_behind p (single_mark spot) (map single_mark later) ≡ row_after p spot later
behind_same p spot later = ap (λ b. cond b (p + 1) p) (any_same (marks_meet p (single_mark spot)) (meets p spot) single_mark (λ other. meets_same p spot other) later)

placed_from_same : (p : ℕ) (spots : List Spot) → marks_placed p (map single_mark spots) ≡ map placed_mark (placed_from p spots)
placed_from_same p [] = refl
placed_from_same p (spot ∷ later) =
    ap (λ r. record { mark = single_mark spot; row = r } ∷ marks_placed (row_behind r (single_mark spot) (map single_mark later)) (map single_mark later)) (row_same p spot later)
    ∙ ap (λ r. record { mark = single_mark spot; row = row_from p spot later } ∷ marks_placed r (map single_mark later)) (behind_same (row_from p spot later) spot later)
    ∙ ap (λ z. record { mark = single_mark spot; row = row_from p spot later } ∷ z) (placed_from_same (row_after (row_from p spot later) spot later) later)

pub laid_out_same : (spots : List Spot) → laid_out (map single_mark spots) ≡ map placed_mark (placed spots)
laid_out_same spots = ap (marks_placed 0) (sym (falling_same spots)) ∙ placed_from_same 0 (falling spots)

-- ---- a test of all, or of one, in another order

and_turned : (a b c : Bool) → (a && (b && c)) ≡ (b && (a && c))
and_turned true true c = refl
and_turned true false c = refl
and_turned false true c = refl
and_turned false false c = refl

or_turned : (a b c : Bool) → (a || (b || c)) ≡ (b || (a || c))
or_turned true true c = refl
or_turned true false c = refl
or_turned false true c = refl
or_turned false false c = refl

pub all_cond : {X : Type 0} (p : X → Bool) (b : Bool) (xs ys : List X) → list_all p xs ≡ list_all p ys → list_all p (cond b xs ys) ≡ list_all p xs
all_cond p true xs ys e = refl
all_cond p false xs ys e = sym e

pub any_cond : {X : Type 0} (p : X → Bool) (b : Bool) (xs ys : List X) → list_any p xs ≡ list_any p ys → list_any p (cond b xs ys) ≡ list_any p xs
any_cond p true xs ys e = refl
any_cond p false xs ys e = sym e

all_put : {X : Type 0} (p : X → Bool) (before : X → X → Bool) (x : X) (xs : List X) → list_all p (put_by before x xs) ≡ (p x && list_all p xs)
all_put p before x [] = refl
all_put p before x (y ∷ xs) =
    all_cond p (before x y) (x ∷ y ∷ xs) (y ∷ put_by before x xs) (sym (ap (λ b. p y && b) (all_put p before x xs) ∙ and_turned (p y) (p x) (list_all p xs)))

any_put : {X : Type 0} (p : X → Bool) (before : X → X → Bool) (x : X) (xs : List X) → list_any p (put_by before x xs) ≡ (p x || list_any p xs)
any_put p before x [] = refl
any_put p before x (y ∷ xs) =
    any_cond p (before x y) (x ∷ y ∷ xs) (y ∷ put_by before x xs) (sym (ap (λ b. p y || b) (any_put p before x xs) ∙ or_turned (p y) (p x) (list_any p xs)))

pub all_sorted : {X : Type 0} (p : X → Bool) (before : X → X → Bool) (xs : List X) → list_all p (sorted_by before xs) ≡ list_all p xs
all_sorted p before [] = refl
all_sorted p before (x ∷ xs) = all_put p before x (sorted_by before xs) ∙ ap (λ b. p x && b) (all_sorted p before xs)

pub any_sorted : {X : Type 0} (p : X → Bool) (before : X → X → Bool) (xs : List X) → list_any p (sorted_by before xs) ≡ list_any p xs
any_sorted p before [] = refl
any_sorted p before (x ∷ xs) = any_put p before x (sorted_by before xs) ∙ ap (λ b. p x || b) (any_sorted p before xs)

-- the layout has the marks of the spans
all_placed : (p : Mark → Bool) (r : ℕ) (marks : List Mark) → list_all (λ it. p it.mark) (marks_placed r marks) ≡ list_all p marks
all_placed p r [] = refl
all_placed p r (mark ∷ later) = ap (λ b. p mark && b) (all_placed p (row_behind (mark_row r mark later) mark later) later)

any_placed : (p : Mark → Bool) (r : ℕ) (marks : List Mark) → list_any (λ it. p it.mark) (marks_placed r marks) ≡ list_any p marks
any_placed p r [] = refl
any_placed p r (mark ∷ later) = ap (λ b. p mark || b) (any_placed p (row_behind (mark_row r mark later) mark later) later)

all_map : {X Y : Type 0} (p : Y → Bool) (f : X → Y) (xs : List X) → list_all p (map f xs) ≡ list_all (λ x. p (f x)) xs
all_map p f [] = refl
all_map p f (x ∷ xs) = ap (λ b. p (f x) && b) (all_map p f xs)

any_map : {X Y : Type 0} (p : Y → Bool) (f : X → Y) (xs : List X) → list_any p (map f xs) ≡ list_any (λ x. p (f x)) xs
any_map p f xs = any_same p (λ x. p (f x)) f (λ x. refl) xs

any_by : {X : Type 0} (p q : X → Bool) → ((x : X) → p x ≡ q x) → (xs : List X) → list_any p xs ≡ list_any q xs
any_by p q same [] = refl
any_by p q same (x ∷ xs) = ap (λ b. b || list_any p xs) (same x) ∙ ap (λ b. q x || b) (any_by p q same xs)

-- the marks as they are underlined
abbrev lines_of : List Spot → List PlacedMark
lines_of spots = sorted_by is_longer (laid_out (map single_mark spots))

all_lines : (p : Mark → Bool) (spots : List Spot) → list_all (λ it. p it.mark) (lines_of spots) ≡ list_all (λ spot. p (single_mark spot)) spots
all_lines p spots =
    all_sorted (λ it. p it.mark) is_longer (laid_out (map single_mark spots))
    ∙ all_placed p 0 (sorted_by begins_later (map single_mark spots))
    ∙ all_sorted p begins_later (map single_mark spots)
    ∙ all_map p single_mark spots

any_lines : (p : Mark → Bool) (spots : List Spot) → list_any (λ it. p it.mark) (lines_of spots) ≡ list_any (λ spot. p (single_mark spot)) spots
any_lines p spots =
    any_sorted (λ it. p it.mark) is_longer (laid_out (map single_mark spots))
    ∙ any_placed p 0 (sorted_by begins_later (map single_mark spots))
    ∙ any_sorted p begins_later (map single_mark spots)
    ∙ any_map p single_mark spots

-- ---- underlines

abbrev pub mark_covers : ℕ → Mark → Bool
mark_covers col it = nat_le it.start_col col && nat_lt col it.end_col

abbrev char_of : Mark → ℕ
char_of it = cond it.is_primary 94 45

abbrev no_shorter : ℕ → Mark → Mark → Bool
no_shorter col one other = not (mark_covers col other) || nat_le (one.end_col - one.start_col) (other.end_col - other.start_col)

record Inside (col : ℕ) (it : Mark) : Type 0 where
  low : it.start_col ≤ col
  high : col < it.end_col

inside : (col : ℕ) (it : Mark) → mark_covers col it ≡ true → Inside col it
inside col it e = record { low = grind (arith, nat_tests); high = grind (arith, nat_tests) }

outside : (col : ℕ) (it : Mark) → mark_covers col it ≡ false → (col < it.start_col) ⊎ (it.end_col ≤ col)
outside col it e =
    ⊎_elim
    (λ le. ⊎_elim (λ lt. absurd (let no : ⊥ = grind (arith, nat_tests) in no)) (λ ge. inr (let p : it.end_col ≤ col = omega (arith, ge.1) in p)) (leb_tells (suc col) it.end_col))
    (λ gt. inl gt.1)
    (leb_tells it.start_col col)

-- an underline that doesn't cover a column changes no cell there
line_keeps : (at : Columns) (it : PlacedMark) (grid : Grid) (col ch : ℕ) → mark_covers col it.mark ≡ false → HasAt 0 (at.code + col) ch grid → HasAt 0 (at.code + col) ch (draw_underline at it grid)
line_keeps at it grid col ch out has =
    across_keeps 0 (at.code + it.mark.start_col) (at.code + it.mark.end_col - (at.code + it.mark.start_col)) (underline it.mark.is_primary) grid (at.code + col) ch
    (⊎_elim
    (λ less. inl (omega (arith, less)))
    (λ more. ⊎_elim (λ start. inr (omega (arith, more, start.1))) (λ start. inl (omega (arith, start.1))) (leb_tells it.mark.start_col col))
    (outside col it.mark out))
    has

or_none : (a b : Bool) → (a || b) ≡ false → (a ≡ false) × (b ≡ false)
or_none true b e = cc
or_none false b e = (refl, e)

and_all : (a b : Bool) → (a && b) ≡ true → (a ≡ true) × (b ≡ true)
and_all true b e = (refl, e)
and_all false b e = cc

or_true : (a b : Bool) → b ≡ true → (a || b) ≡ true
or_true true b e = refl
or_true false b e = e

lines_keep : (at : Columns) (lines : List PlacedMark) (grid : Grid) (col ch : ℕ) → list_any (λ it. mark_covers col it.mark) lines ≡ false → HasAt 0 (at.code + col) ch grid → HasAt 0 (at.code + col) ch (drawn (layer_of Underlines at) lines grid)
lines_keep at [] grid col ch none has = has
lines_keep at (it ∷ lines) grid col ch none has =
    let parts = or_none (mark_covers col it.mark) (list_any (λ it. mark_covers col it.mark) lines) none in
    lines_keep at lines (draw_underline at it grid) col ch parts.1 (line_keeps at it grid col ch parts.0 has)

lines_keep_row : (at : Columns) (lines : List PlacedMark) (grid : Grid) (r c ch : ℕ) → 0 < r → HasAt r c ch grid → HasAt r c ch (drawn (layer_of Underlines at) lines grid)
lines_keep_row at [] grid r c ch below has = has
lines_keep_row at (it ∷ lines) grid r c ch below has =
    lines_keep_row at lines (draw_underline at it grid) r c ch below
    (across_keeps_row 0 (at.code + it.mark.start_col) (at.code + it.mark.end_col - (at.code + it.mark.start_col)) (underline it.mark.is_primary) grid r c ch (inl below) has)

-- longer ones first
abbrev Falling : List PlacedMark → Type 0
Falling [] = Unit {0}
Falling (it ∷ lines) = (list_all (λ other. is_longer it other) lines ≡ true) × Falling lines

longer_trans : (a b c : PlacedMark) → is_longer a b ≡ true → is_longer b c ≡ true → is_longer a c ≡ true
longer_trans a b c one two = grind (arith, nat_tests)

longer_other : (a b : PlacedMark) → is_longer a b ≡ false → is_longer b a ≡ true
longer_other a b e = grind (arith, nat_tests)

all_longer : (a b : PlacedMark) (lines : List PlacedMark) → is_longer a b ≡ true → list_all (λ other. is_longer b other) lines ≡ true → list_all (λ other. is_longer a other) lines ≡ true
all_longer a b [] one all = refl
all_longer a b (c ∷ lines) one all =
    let parts = and_all (is_longer b c) (list_all (λ other. is_longer b other) lines) all in
    ap (λ z. z && list_all (λ other. is_longer a other) lines) (longer_trans a b c one parts.0) ∙ all_longer a b lines one parts.1

falling_cases : (b : Bool) (x y : PlacedMark) (put lines : List PlacedMark) → (b ≡ true → Falling (x ∷ y ∷ lines)) → (b ≡ false → Falling (y ∷ put)) → Falling (cond b (x ∷ y ∷ lines) (y ∷ put))
falling_cases true x y put lines one two = one refl
falling_cases false x y put lines one two = two refl

longest_put : (x : PlacedMark) (lines : List PlacedMark) → Falling lines → Falling (put_by is_longer x lines)
longest_put x [] it = (refl, tt)
longest_put x (y ∷ lines) it =
    falling_cases (is_longer x y) x y (put_by is_longer x lines) lines
    (λ so. (ap (λ z. z && list_all (λ other. is_longer x other) lines) so ∙ all_longer x y lines so it.0, it))
    (λ so. (all_put (λ other. is_longer y other) is_longer x lines ∙ ap (λ z. z && list_all (λ other. is_longer y other) lines) (longer_other x y so) ∙ it.0, longest_put x lines it.1))

falling_sorted : (lines : List PlacedMark) → Falling (sorted_by is_longer lines)
falling_sorted [] = tt
falling_sorted (x ∷ lines) = longest_put x (sorted_by is_longer lines) (falling_sorted lines)

-- one of the shortest that cover a column, whose mark is drawn there
record Found (at : Columns) (col : ℕ) (lines : List PlacedMark) (grid : Grid) : Type 0 where
  it : PlacedMark
  over : mark_covers col it.mark ≡ true
  any : (p : PlacedMark → Bool) → p it ≡ true → list_any p lines ≡ true
  all : (p : PlacedMark → Bool) → list_all p lines ≡ true → p it ≡ true
  shortest : list_all (λ other. no_shorter col it.mark other.mark) lines ≡ true
  has : HasAt 0 (at.code + col) (char_of it.mark) (drawn (layer_of Underlines at) lines grid)

none_shorter : (col : ℕ) (it : Mark) (lines : List PlacedMark) → list_any (λ other. mark_covers col other.mark) lines ≡ false → list_all (λ other. no_shorter col it other.mark) lines ≡ true
none_shorter col it [] none = refl
none_shorter col it (other ∷ lines) none =
    let parts = or_none (mark_covers col other.mark) (list_any (λ other. mark_covers col other.mark) lines) none in
    ap (λ z. (not z || nat_le (it.end_col - it.start_col) (other.mark.end_col - other.mark.start_col)) && list_all (λ other. no_shorter col it other.mark) lines) parts.0
    ∙ none_shorter col it lines parts.1

self_shorter : (col : ℕ) (it : Mark) → no_shorter col it it ≡ true
self_shorter col it = or_true (not (mark_covers col it)) (nat_le (it.end_col - it.start_col) (it.end_col - it.start_col)) (grind (arith, nat_tests))

first_shorter : (col : ℕ) (one it : PlacedMark) (over : Bool) → mark_covers col one.mark ≡ over → mark_covers col it.mark ≡ true → is_longer one it ≡ true → no_shorter col it.mark one.mark ≡ true
first_shorter col one it false out over longer = ap (λ z. not z || nat_le (it.mark.end_col - it.mark.start_col) (one.mark.end_col - one.mark.start_col)) out
first_shorter col one it true out over longer =
    let a = inside col one.mark out in
    let b = inside col it.mark over in
    or_true (not (mark_covers col one.mark)) (nat_le (it.mark.end_col - it.mark.start_col) (one.mark.end_col - one.mark.start_col)) (grind (arith, nat_tests, a.low, a.high, b.low, b.high))

found_more : (at : Columns) (col : ℕ) (one : PlacedMark) (lines : List PlacedMark) (grid : Grid) → list_all (λ other. is_longer one other) lines ≡ true → Found at col lines (draw_underline at one grid) → Found at col (one ∷ lines) grid
found_more at col one lines grid longer found = record {
  it = found.it;
  over = found.over;
  any = λ p e. or_true (p one) (list_any p lines) (found.any p e);
  all = λ p e. found.all p (and_all (p one) (list_all p lines) e).1;
  shortest = ap (λ z. z && list_all (λ other. no_shorter col found.it.mark other.mark) lines) (first_shorter col one found.it (mark_covers col one.mark) refl found.over (found.all (λ other. is_longer one other) longer)) ∙ found.shortest;
  has = found.has;
}

found_first : (at : Columns) (col : ℕ) (one : PlacedMark) (lines : List PlacedMark) (grid : Grid) → mark_covers col one.mark ≡ true → list_any (λ other. mark_covers col other.mark) lines ≡ false → Found at col (one ∷ lines) grid
found_first at col one lines grid over none =
    let within = inside col one.mark over in record {
      it = one;
      over = over;
      any = λ p e. ap (λ z. z || list_any p lines) e;
      all = λ p e. (and_all (p one) (list_all p lines) e).0;
      shortest = ap (λ z. z && list_all (λ other. no_shorter col one.mark other.mark) lines) (self_shorter col one.mark) ∙ none_shorter col one.mark lines none;
      has = lines_keep at lines (draw_underline at one grid) col (char_of one.mark) none
          (across_new 0 (at.code + one.mark.start_col) (at.code + one.mark.end_col - (at.code + one.mark.start_col)) (underline one.mark.is_primary) grid (at.code + col) (omega (arith, within.low)) (omega (arith, within.low, within.high)));
    }

found_or_none : (at : Columns) (col : ℕ) (one : PlacedMark) (lines : List PlacedMark) (grid : Grid) (over : Bool) → mark_covers col one.mark ≡ over → list_any (λ other. mark_covers col other.mark) lines ≡ false → (list_any (λ other. mark_covers col other.mark) (one ∷ lines) ≡ false) ⊎ Found at col (one ∷ lines) grid
found_or_none at col one lines grid true e none = inr (found_first at col one lines grid e none)
found_or_none at col one lines grid false e none = inl (ap (λ z. z || list_any (λ other. mark_covers col other.mark) lines) e ∙ none)

found_in : (at : Columns) (col : ℕ) (lines : List PlacedMark) (grid : Grid) → Falling lines → (list_any (λ other. mark_covers col other.mark) lines ≡ false) ⊎ Found at col lines grid
found_in at col [] grid falls = inl refl
found_in at col (one ∷ lines) grid falls =
    ⊎_elim
    (λ none. found_or_none at col one lines grid (mark_covers col one.mark) refl none)
    (λ found. inr (found_more at col one lines grid falls.0 found))
    (found_in at col lines (draw_underline at one grid) falls.1)

pub same_number : (n : ℕ) → nat_eq n n ≡ true
same_number n = grind (arith, nat_tests)

-- the columns of a line whose spans all lie on one line
abbrev pub plain_columns : ℕ → Columns
plain_columns w = record { bars = w + 2; code = w + 3 }

is_marked_if : (w : ℕ) (spots : List Spot) (under : List (List ℕ)) (col : ℕ) (covered : Bool) → is_covered col spots ≡ covered → (covered ≡ true → is_some_of (may_mark col spots) (cell_at under 0 (w + 3 + col)) ≡ true) → is_marked w spots under col ≡ true
is_marked_if w spots under col false e then = ap (λ b. not b || is_some_of (may_mark col spots) (cell_at under 0 (w + 3 + col))) e
is_marked_if w spots under col true e then = or_true (not (is_covered col spots)) (is_some_of (may_mark col spots) (cell_at under 0 (w + 3 + col))) (then refl)

-- what may stand under a column, said of the marks
any_same_test : (w : ℕ) (spots : List Spot) (col c : ℕ) → list_any (λ it. mark_covers col it.mark && (list_all (λ other. no_shorter col it.mark other.mark) (lines_of spots) && nat_eq c (char_of it.mark))) (lines_of spots) ≡ may_mark col spots c
any_same_test w spots col c =
    any_lines (λ it. mark_covers col it && (list_all (λ other. no_shorter col it other.mark) (lines_of spots) && nat_eq c (char_of it))) spots
    ∙ any_by (λ spot. mark_covers col (single_mark spot) && (list_all (λ other. no_shorter col (single_mark spot) other.mark) (lines_of spots) && nat_eq c (char_of (single_mark spot)))) (λ spot. covers col spot && (list_all (is_no_shorter col spot) spots && nat_eq c (mark_of spot)))
    (λ spot. ap (λ b. covers col spot && (b && nat_eq c (mark_of spot))) (all_lines (no_shorter col (single_mark spot)) spots)) spots

found_marks : (w : ℕ) (spots : List Spot) (col : ℕ) (grid : Grid) (rest : List (List ℕ)) → Found (plain_columns w) col (lines_of spots) grid → is_some_of (may_mark col spots) (cell_at (grid_chars (drawn (layer_of Underlines (plain_columns w)) (lines_of spots) grid) ++ rest) 0 (w + 3 + col)) ≡ true
found_marks w spots col grid rest found =
    let c = char_of found.it.mark in
    let cell : cell_at (grid_chars (drawn (layer_of Underlines (plain_columns w)) (lines_of spots) grid) ++ rest) 0 (w + 3 + col) ≡ Some c = seen 0 (w + 3 + col) c _ rest found.has in
    let here : (mark_covers col found.it.mark && (list_all (λ other. no_shorter col found.it.mark other.mark) (lines_of spots) && nat_eq c (char_of found.it.mark))) ≡ true =
    ap (λ b. b && (list_all (λ other. no_shorter col found.it.mark other.mark) (lines_of spots) && nat_eq c (char_of found.it.mark))) found.over
    ∙ ap (λ b. b && nat_eq c (char_of found.it.mark)) found.shortest
    ∙ same_number c in
    ap (is_some_of (may_mark col spots)) cell
    ∙ sym (any_same_test w spots col c)
    ∙ found.any (λ it. mark_covers col it.mark && (list_all (λ other. no_shorter col it.mark other.mark) (lines_of spots) && nat_eq c (char_of it.mark))) here

-- ---- labels

label_cases : (at : Columns) (it : Placed) (grid : Grid) (b : Bool) → nat_eq it.row 0 ≡ b → draw_label at (placed_mark it) grid ≡ put_text (label_row it) (at.code + label_col it) (in_style (label_style it.spot.is_primary) (label_chars it)) grid
label_cases at it grid true e =
    let cells = in_style (label_style it.spot.is_primary) (label_chars it) in
    ap (λ b. cond b (put_text 0 (at.code + end_col it.spot + 1) cells grid) (put_text (it.row + 1) (at.code + start_col it.spot) cells grid)) e
    ∙ ap (λ n. put_text 0 n cells grid) (let p : at.code + end_col it.spot + 1 ≡ at.code + (end_col it.spot + 1) = omega arith in p)
    ∙ sym (ap (λ b. put_text (cond b 0 (it.row + 1)) (at.code + cond b (end_col it.spot + 1) (start_col it.spot)) cells grid) e)
label_cases at it grid false e =
    let cells = in_style (label_style it.spot.is_primary) (label_chars it) in
    ap (λ b. cond b (put_text 0 (at.code + end_col it.spot + 1) cells grid) (put_text (it.row + 1) (at.code + start_col it.spot) cells grid)) e
    ∙ sym (ap (λ b. put_text (cond b 0 (it.row + 1)) (at.code + cond b (end_col it.spot + 1) (start_col it.spot)) cells grid) e)

-- in which style a label stands
label_text : (at : Columns) (it : Placed) (grid : Grid) → draw_label at (placed_mark it) grid ≡ put_text (label_row it) (at.code + label_col it) (in_style (label_style it.spot.is_primary) (label_chars it)) grid
label_text at it grid = label_cases at it grid (nat_eq it.row 0) refl

label_long : (it : Placed) → length (in_style (label_style it.spot.is_primary) (label_chars it)) ≡ length (label_chars it)
label_long it = length-map (label_chars it) (λ c. (c, label_style it.spot.is_primary))

apart_in : (at : Columns) (other : Placed) (r col : ℕ) → label_row other ≡ r → occupies r col other ≡ false → (at.code + col < at.code + label_col other) ⊎ (at.code + label_col other + length (in_style (label_style other.spot.is_primary) (label_chars other)) ≤ at.code + col)
apart_in at other r col same out =
    let seen_row : nat_eq (label_row other) r ≡ true = grind (arith, nat_tests) in
    let cols : (nat_le (label_col other) col && nat_lt col (label_col other + length (label_chars other))) ≡ false = sym (ap (λ b. b && (nat_le (label_col other) col && nat_lt col (label_col other + length (label_chars other)))) seen_row) ∙ out in
    let long = label_long other in
    ⊎_elim
    (λ le. ⊎_elim (λ lt. absurd (let no : ⊥ = grind (arith, nat_tests) in no)) (λ ge. inr (omega (arith, ge.1, long))) (leb_tells (suc col) (label_col other + length (label_chars other))))
    (λ gt. inl (omega (arith, gt.1)))
    (leb_tells (label_col other) col)

-- another label changes no cell that it doesn't take
label_keeps : (at : Columns) (other : Placed) (grid : Grid) (r col ch : ℕ) → occupies r col other ≡ false → HasAt r (at.code + col) ch grid → HasAt r (at.code + col) ch (draw_label at (placed_mark other) grid)
label_keeps at other grid r col ch out has =
    subst (HasAt r (at.code + col) ch) (sym (label_text at other grid))
    (⊎_elim
    (λ same. subst (λ n. HasAt n (at.code + col) ch (put_text (label_row other) (at.code + label_col other) (in_style (label_style other.spot.is_primary) (label_chars other)) grid)) same
    (text_keeps (label_row other) (at.code + label_col other) (in_style (label_style other.spot.is_primary) (label_chars other)) grid (at.code + col) ch (apart_in at other r col same out) (subst (λ n. HasAt n (at.code + col) ch grid) (sym same) has)))
    (λ apart. text_keeps_row (label_row other) (at.code + label_col other) (in_style (label_style other.spot.is_primary) (label_chars other)) grid r (at.code + col) ch apart has)
    (same_or_apart (label_row other) r))

labels_keep : (at : Columns) (others : List Placed) (grid : Grid) (r col ch : ℕ) → list_any (occupies r col) others ≡ false → HasAt r (at.code + col) ch grid → HasAt r (at.code + col) ch (drawn (layer_of Labels at) (map placed_mark others) grid)
labels_keep at [] grid r col ch none has = has
labels_keep at (other ∷ others) grid r col ch none has =
    let parts = or_none (occupies r col other) (list_any (occupies r col) others) none in
    labels_keep at others (draw_label at (placed_mark other) grid) r col ch parts.1 (label_keeps at other grid r col ch parts.0 has)

free_first : {X : Type 0} (p : X → Bool) (x : X) (xs : List X) (b : Bool) → p x ≡ b → length (cond (p x) (x ∷ filter p xs) (filter p xs)) ≡ 0 → (length (filter p xs) ≡ 0 → list_any p xs ≡ false) → list_any p (x ∷ xs) ≡ false
free_first p x xs true e few then = absurd (let no : ⊥ = omega (arith, sym few, ap (λ b. length (cond b (x ∷ filter p xs) (filter p xs))) e) in no)
free_first p x xs false e few then = ap (λ b. b || list_any p xs) e ∙ then (sym (ap (λ b. length (cond b (x ∷ filter p xs) (filter p xs))) e) ∙ few)

at_least : {X : Type 0} (b : Bool) (y : X) (xs : List X) → length xs ≤ length (cond b (y ∷ xs) xs)
at_least true y xs = omega arith
at_least false y xs = omega arith

got_within : (xs : List ℕ) (k c : ℕ) → slice_get xs k ≡ Some c → k < length xs
got_within [] k c e = cc
got_within (x ∷ xs) zero c e = omega arith
got_within (x ∷ xs) (suc k) c e = omega (arith, got_within xs k c e)

takes_own : (it : Placed) (k : ℕ) → k < length (label_chars it) → occupies (label_row it) (label_col it + k) it ≡ true
takes_own it k within = grind (arith, nat_tests)

free : {X : Type 0} (p : X → Bool) (xs : List X) → length (filter p xs) ≡ 0 → list_any p xs ≡ false
free p [] e = refl
free p (x ∷ xs) e = free_first p x xs (p x) refl e (λ few. free p xs few)

free_behind : {X : Type 0} (p : X → Bool) (before : List X) (x : X) (behind : List X) → p x ≡ true → length (filter p (before ++ x ∷ behind)) ≤ 1 → list_any p behind ≡ false
free_behind p [] x behind here few = free p behind (omega (arith, few, ap (λ b. length (cond b (x ∷ filter p behind) (filter p behind))) here))
free_behind p (y ∷ before) x behind here few = free_behind p before x behind here (omega (arith, few, at_least (p y) y (filter p (before ++ x ∷ behind))))

drawn_all : {X : Type 0} (draw : X → Grid → Grid) (xs ys : List X) (grid : Grid) → drawn draw (xs ++ ys) grid ≡ drawn draw ys (drawn draw xs grid)
drawn_all draw [] ys grid = refl
drawn_all draw (x ∷ xs) ys grid = drawn_all draw xs ys (draw x grid)

-- a cell of a label that no other takes
label_there : (at : Columns) (before : List Placed) (it : Placed) (behind : List Placed) (grid : Grid) (k c : ℕ) → slice_get (label_chars it) k ≡ Some c → length (filter (occupies (label_row it) (label_col it + k)) (before ++ it ∷ behind)) ≤ 1 → HasAt (label_row it) (at.code + (label_col it + k)) c (drawn (layer_of Labels at) (map placed_mark (before ++ it ∷ behind)) grid)
label_there at before it behind grid k c got few =
    let begun = drawn (layer_of Labels at) (map placed_mark before) grid in
    let style = label_style it.spot.is_primary in
    let here : HasAt (label_row it) (at.code + (label_col it + k)) c (draw_label at (placed_mark it) begun) =
    subst (HasAt (label_row it) (at.code + (label_col it + k)) c) (sym (label_text at it begun))
    (text_new (label_row it) (at.code + label_col it) (in_style style (label_chars it)) begun k (at.code + (label_col it + k)) (c, style) (slice_get-map (λ ch. (ch, style)) (label_chars it) k ∙ ap (option_map (λ ch. (ch, style))) got) (omega arith)) in
    subst (HasAt (label_row it) (at.code + (label_col it + k)) c)
    (sym (ap (λ z. drawn (layer_of Labels at) z grid) (map-append placed_mark before (it ∷ behind)) ∙ drawn_all (layer_of Labels at) (map placed_mark before) (map placed_mark (it ∷ behind)) grid))
    (labels_keep at behind (draw_label at (placed_mark it) begun) (label_row it) (label_col it + k) c
    (free_behind (occupies (label_row it) (label_col it + k)) before it behind (takes_own it k (got_within (label_chars it) k c got)) few) here)

-- ---- what stands under a line

-- the grid under a line whose spans all lie on one line
abbrev pub plain_under : ℕ → List Spot → Grid
plain_under w spots = under_line (plain_columns w) [] (laid_out (map single_mark spots))

-- what is drawn before the labels
abbrev before_labels : ℕ → List Spot → Grid
before_labels w spots =
    let at = plain_columns w in
    let marks = laid_out (map single_mark spots) in
    drawn (layer_of (Sides (row_count marks)) at) marks (drawn (layer_of Downs at) marks (drawn (layer_of Edges at) marks (frame (at.bars - 1) (row_count marks))))

all_between : (p : ℕ → Bool) (a n : ℕ) → ((k : ℕ) → a ≤ k → k < a + n → p k ≡ true) → list_all p (range_with_len a n) ≡ true
all_between p a zero each = refl
all_between p a (suc n) each = ap (λ b. b && list_all p (range_with_len (a + 1) n)) (each a (omega arith) (omega arith)) ∙ all_between p (a + 1) n (λ k low high. each k (omega (arith, low)) (omega (arith, high)))

all_split : {X : Type 0} (p : X → Bool) (before xs : List X) → ((front : List X) (x : X) (behind : List X) → front ++ x ∷ behind ≡ before ++ xs → p x ≡ true) → list_all p xs ≡ true
all_split p before [] each = refl
all_split p before (x ∷ xs) each =
    ap (λ b. b && list_all p xs) (each before x xs refl)
    ∙ all_split p (before ++ x ∷ []) xs (λ front y behind e. each front y behind (e ∙ append_assoc before (x ∷ []) xs))

underlined : (w : ℕ) (spots : List Spot) (rest : List (List ℕ)) (col : ℕ) → is_marked w spots (grid_chars (plain_under w spots) ++ rest) col ≡ true
underlined w spots rest col =
    is_marked_if w spots (grid_chars (plain_under w spots) ++ rest) col (is_covered col spots) refl (λ covered.
    let at = plain_columns w in
    let grid = drawn (layer_of Labels at) (laid_out (map single_mark spots)) (before_labels w spots) in
    ⊎_elim
    (λ none. absurd (true≢false (sym covered ∙ sym (any_lines (mark_covers col) spots) ∙ none)))
    (λ found. found_marks w spots col grid rest found)
    (found_in at col (lines_of spots) grid (falling_sorted (laid_out (map single_mark spots)))))

-- no more than one takes a cell that isn't hidden
one_takes : (row col : ℕ) (spots : List Spot) → may_be_hidden row col spots ≡ false → length (filter (occupies row col) (placed spots)) ≤ 1
one_takes row col spots shown =
    let parts = or_none (nat_eq row 0 && is_covered col spots) (nat_lt 1 (length (filter (occupies row col) (placed spots)))) shown in
    let few = parts.1 in
    grind (arith, nat_tests)

-- an underline doesn't go over it
under_labels : (w : ℕ) (spots : List Spot) (grid : Grid) (row col c : ℕ) (b : Bool) → nat_eq row 0 ≡ b → may_be_hidden row col spots ≡ false → HasAt row (w + 3 + col) c grid → HasAt row (w + 3 + col) c (drawn (layer_of Underlines (plain_columns w)) (lines_of spots) grid)
under_labels w spots grid row col c false e shown has = lines_keep_row (plain_columns w) (lines_of spots) grid row (w + 3 + col) c (let p : 0 < row = grind (arith, nat_tests) in p) has
under_labels w spots grid row col c true e shown has =
    let first : row ≡ 0 = grind (arith, nat_tests) in
    let parts = or_none (nat_eq row 0 && is_covered col spots) (nat_lt 1 (length (filter (occupies row col) (placed spots)))) shown in
    let free : is_covered col spots ≡ false = sym (ap (λ b. b && is_covered col spots) e) ∙ parts.0 in
    subst (λ n. HasAt n (w + 3 + col) c (drawn (layer_of Underlines (plain_columns w)) (lines_of spots) grid)) (sym first)
    (lines_keep (plain_columns w) (lines_of spots) grid col c (any_lines (mark_covers col) spots ∙ free) (subst (λ n. HasAt n (w + 3 + col) c grid) first has))

-- a cell of a label
record CellOf (it : Placed) (k : ℕ) : Type 0 where
  c : ℕ
  got : slice_get (label_chars it) k ≡ Some c

got_at : (xs : List ℕ) (k : ℕ) → k < length xs → (c : ℕ) × (slice_get xs k ≡ Some c)
got_at [] k within = absurd (let no : ⊥ = omega (arith, within) in no)
got_at (x ∷ xs) zero within = (x, refl)
got_at (x ∷ xs) (suc k) within = got_at xs k (omega (arith, within))

cell_there : (w : ℕ) (spots : List Spot) (rest : List (List ℕ)) (front : List Placed) (it : Placed) (behind : List Placed) (k : ℕ) → front ++ it ∷ behind ≡ placed spots → k < length (label_chars it) → may_be_hidden (label_row it) (label_col it + k) spots ≡ false → option_eq nat_eq (cell_at (grid_chars (plain_under w spots) ++ rest) (label_row it) (w + 3 + (label_col it + k))) (slice_get (label_chars it) k) ≡ true
cell_there w spots rest front it behind k split within shown =
    let at = plain_columns w in
    let got = got_at (label_chars it) k within in
    let few : length (filter (occupies (label_row it) (label_col it + k)) (front ++ it ∷ behind)) ≤ 1 =
    subst (λ z. length (filter (occupies (label_row it) (label_col it + k)) z) ≤ 1) (sym split) (one_takes (label_row it) (label_col it + k) spots shown) in
    let labelled : HasAt (label_row it) (w + 3 + (label_col it + k)) got.0 (drawn (layer_of Labels at) (laid_out (map single_mark spots)) (before_labels w spots)) =
    subst (λ z. HasAt (label_row it) (w + 3 + (label_col it + k)) got.0 (drawn (layer_of Labels at) z (before_labels w spots)))
    (ap (map placed_mark) split ∙ sym (laid_out_same spots))
    (label_there at front it behind (before_labels w spots) k got.0 got.1 few) in
    let all = under_labels w spots _ (label_row it) (label_col it + k) got.0 (nat_eq (label_row it) 0) refl shown labelled in
    ap (λ o. option_eq nat_eq o (slice_get (label_chars it) k)) (seen (label_row it) (w + 3 + (label_col it + k)) got.0 (plain_under w spots) rest all)
    ∙ ap (option_eq nat_eq (Some got.0)) got.1
    ∙ same_number got.0

has_cell_if : (w : ℕ) (spots : List Spot) (under : List (List ℕ)) (it : Placed) (k : ℕ) (hidden : Bool) → may_be_hidden (label_row it) (label_col it + k) spots ≡ hidden → (hidden ≡ false → option_eq nat_eq (cell_at under (label_row it) (w + 3 + (label_col it + k))) (slice_get (label_chars it) k) ≡ true) → has_cell w spots under it k ≡ true
has_cell_if w spots under it k true e then = ap (λ b. b || option_eq nat_eq (cell_at under (label_row it) (w + 3 + (label_col it + k))) (slice_get (label_chars it) k)) e
has_cell_if w spots under it k false e then = or_true (may_be_hidden (label_row it) (label_col it + k) spots) _ (then refl)

pub marked : (w : ℕ) (spots : List Spot) (rest : List (List ℕ)) → Marked w spots (grid_chars (plain_under w spots) ++ rest)
marked w spots rest = record {
  underlined = all_between (is_marked w spots (grid_chars (plain_under w spots) ++ rest)) 0 (columns spots) (λ col low high. underlined w spots rest col);
  labels = all_split (has_label w spots (grid_chars (plain_under w spots) ++ rest)) [] (placed spots) (λ front it behind split.
      all_between (has_cell w spots (grid_chars (plain_under w spots) ++ rest) it) 0 (length (label_chars it)) (λ k low high.
      has_cell_if w spots (grid_chars (plain_under w spots) ++ rest) it k (may_be_hidden (label_row it) (label_col it + k) spots) refl (λ shown.
      cell_there w spots rest front it behind k split (omega (arith, high)) shown)));
}
