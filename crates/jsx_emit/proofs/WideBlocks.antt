-- The lines that are shown of one span over several lines.
use Rattle.std.proofs.Common.{◌≡◌, ℕ, zero, suc, ◌+◌, ◌-◌, ◌<◌, ◌≤◌, Bool, true, false, cond, nat_eq, nat_le, nat_lt, List, [], ◌∷◌, ◌++◌, Option, map, min, refl, ap, sym, ◌∙◌, arith, append_assoc, append-nil}
use Rattle.std.specs.List.{range_with_len}
use Rattle.std.specs.Str.{chars}
use Rattle.std.proofs.lemmas.Bool.Decides.{nat_tests}
use Rattle.std.proofs.lemmas.List.{map-append}
use Rattle.jsx_base.specs.Files.{File}
use Rattle.jsx_diag.specs.Data.{Text}
use Rattle.jsx_draw.specs.Spots.{Reach, Spot, label_bytes, line_put, lines_put, spot_lines}
use Rattle.jsx_emit.specs.Sheets.{block, gap, gap_before, line_blocks}
use Rattle.jsx_emit.proofs.Blocks.{blocks_are}
use Rattle.jsx_draw.proofs.Loops.{range_last}
use Rattle.jsx_emit.proofs.WideRows.{begins, block_first, block_inner, block_last, dots, first_rows, gap_dots, gap_one, in_spot, is_less, last_under, no_gap, not_less, not_same, not_same_back, side, wide_sheet, wide_spot}

-- ---- rising lines

abbrev AllBelow : ℕ → List ℕ → Type 0
AllBelow x [] = Unit {0}
AllBelow x (y ∷ ys) = (y < x) × AllBelow x ys

put_top : (x : ℕ) (ys : List ℕ) → AllBelow x ys → line_put x ys ≡ ys ++ x ∷ []
put_top x [] below = refl
put_top x (y ∷ ys) below =
    ap (λ b. cond b (y ∷ ys) (cond (nat_lt x y) (x ∷ y ∷ ys) (y ∷ line_put x ys))) (not_same_back y x below.0)
    ∙ ap (λ b. cond b (x ∷ y ∷ ys) (y ∷ line_put x ys)) (not_less x y (omega (arith, below.0)))
    ∙ ap (λ z. y ∷ z) (put_top x ys below.1)

abbrev Rises : List ℕ → List ℕ → Type 0
Rises done [] = Unit {0}
Rises done (x ∷ xs) = AllBelow x done × Rises (done ++ x ∷ []) xs

all_put : (xs done : List ℕ) → Rises done xs → lines_put xs done ≡ done ++ xs
all_put [] done rising = sym (append-nil done)
all_put (x ∷ xs) done rising = ap (lines_put xs) (put_top x done rising.0) ∙ all_put xs (done ++ x ∷ []) rising.1 ∙ append_assoc done (x ∷ []) xs

below_end : (x y : ℕ) (ys : List ℕ) → AllBelow x ys → y < x → AllBelow x (ys ++ y ∷ [])
below_end x y [] below less = (less, tt)
below_end x y (z ∷ ys) below less = (below.0, below_end x y ys below.1 less)

below_more : (x y : ℕ) (ys : List ℕ) → AllBelow x ys → x ≤ y → AllBelow y ys
below_more x y [] below le = tt
below_more x y (z ∷ ys) below le = (omega (arith, below.0, le), below_more x y ys below.1 le)

range_rises : (l n : ℕ) (done tail : List ℕ) → AllBelow l done → ((more : List ℕ) → AllBelow (l + n) more → Rises more tail) → Rises done (range_with_len l n ++ tail)
range_rises l zero done tail below then = then done (below_more l (l + 0) done below (omega arith))
range_rises l (suc n) done tail below then =
    (below, range_rises (l + 1) n (done ++ l ∷ []) tail (below_end (l + 1) l done (below_more l (l + 1) done below (omega arith)) (omega arith)) (λ more low. then more (below_more (l + 1 + n) (l + suc n) more low (omega arith))))

-- ---- the lines of the span

abbrev first_four : Reach → List ℕ
first_four reach = range_with_len reach.first.line (min (reach.first.line + 4) reach.last.line - reach.first.line)

lines_are : (file : File) (reach : Reach) (label : Option Text) (t : Bool) → reach.first.line < reach.last.line → nat_lt (reach.first.line + 4) (reach.last.line - 1) ≡ t → spot_lines (wide_spot file reach label) ≡ first_four reach ++ (cond t ((reach.last.line - 1) ∷ []) [] ++ reach.last.line ∷ [])
lines_are file reach label t less is =
    ap (λ b. cond b (reach.first.line ∷ []) (first_four reach ++ (cond (nat_lt (reach.first.line + 4) (reach.last.line - 1)) ((reach.last.line - 1) ∷ []) [] ++ reach.last.line ∷ []))) (not_same reach.first.line reach.last.line less)
    ∙ ap (λ b. first_four reach ++ (cond b ((reach.last.line - 1) ∷ []) [] ++ reach.last.line ∷ [])) is

shown_near : (file : File) (reach : Reach) (label : Option Text) → reach.first.line < reach.last.line → reach.last.line ≤ reach.first.line + 5 → lines_put (spot_lines (wide_spot file reach label)) [] ≡ first_four reach ++ reach.last.line ∷ []
shown_near file reach label less near =
    let a = reach.first.line in
    let b = reach.last.line in
    let n = min (a + 4) b - a in
    ap (λ z. lines_put z []) (lines_are file reach label false less (not_less (a + 4) (b - 1) (omega (arith, less, near))))
    ∙ all_put (first_four reach ++ b ∷ []) [] (range_rises a n [] (b ∷ []) tt (λ more below. (below_more (a + n) b more below (omega (arith, less)), tt)))

shown_far : (file : File) (reach : Reach) (label : Option Text) → reach.first.line + 5 < reach.last.line → lines_put (spot_lines (wide_spot file reach label)) [] ≡ first_four reach ++ (reach.last.line - 1) ∷ reach.last.line ∷ []
shown_far file reach label far =
    let a = reach.first.line in
    let b = reach.last.line in
    let n = min (a + 4) b - a in
    ap (λ z. lines_put z []) (lines_are file reach label true (omega (arith, far)) (is_less (a + 4) (b - 1) (omega (arith, far))))
    ∙ all_put (first_four reach ++ (b - 1) ∷ b ∷ []) [] (range_rises a n [] ((b - 1) ∷ b ∷ []) tt (λ more below.
    let low = below_more (a + n) (b - 1) more below (omega (arith, far)) in
    (low, (below_end b (b - 1) more (below_more (b - 1) b more low (omega (arith, far))) (omega (arith, far)), tt))))

-- ---- rows of lines that follow each other

next_gap : (ui : Bool) (w : ℕ) (spot : Spot) (l n next : ℕ) (tail : List ℕ) → l + suc n ≡ next → gap_before (wide_sheet ui w spot) spot.file l (range_with_len (l + 1) n ++ next ∷ tail) ≡ []
next_gap ui w spot l zero next tail is = no_gap ui w spot l next (omega (arith, is))
next_gap ui w spot l (suc n) next tail is = no_gap ui w spot l (l + 1) refl

blocks_run : (ui : Bool) (w : ℕ) (spot : Spot) (l n next : ℕ) (tail : List ℕ) → spot.reach.first.line < l → l + n ≡ next → next ≤ spot.reach.last.line → line_blocks (wide_sheet ui w spot) spot.file (range_with_len l n ++ next ∷ tail) ≡ map (side ui w spot) (range_with_len l n) ++ line_blocks (wide_sheet ui w spot) spot.file (next ∷ tail)
blocks_run ui w spot l zero next tail low is high = refl
blocks_run ui w spot l (suc n) next tail low is high =
    let sheet = wide_sheet ui w spot in
    let more = range_with_len (l + 1) n ++ next ∷ tail in
    blocks_are sheet spot.file l more
    ∙ ap (λ z. z ++ (gap_before sheet spot.file l more ++ line_blocks sheet spot.file more)) (block_inner ui w spot l low (omega (arith, is, high)))
    ∙ ap (λ z. side ui w spot l ∷ (z ++ line_blocks sheet spot.file more)) (next_gap ui w spot l n next tail is)
    ∙ ap (λ z. side ui w spot l ∷ z) (blocks_run ui w spot (l + 1) n next tail (omega (arith, low)) (omega (arith, is)) high)

blocks_first : (ui : Bool) (w : ℕ) (spot : Spot) (n next : ℕ) (tail : List ℕ) → spot.reach.first.line + suc n ≡ next → next ≤ spot.reach.last.line → line_blocks (wide_sheet ui w spot) spot.file (spot.reach.first.line ∷ (range_with_len (spot.reach.first.line + 1) n ++ next ∷ tail)) ≡ block (wide_sheet ui w spot) (in_spot spot spot.reach.first.line) ++ (map (side ui w spot) (range_with_len (spot.reach.first.line + 1) n) ++ line_blocks (wide_sheet ui w spot) spot.file (next ∷ tail))
blocks_first ui w spot n next tail is high =
    let sheet = wide_sheet ui w spot in
    let a = spot.reach.first.line in
    let more = range_with_len (a + 1) n ++ next ∷ tail in
    blocks_are sheet spot.file a more
    ∙ ap (λ z. block sheet (in_spot spot a) ++ (z ++ line_blocks sheet spot.file more)) (next_gap ui w spot a n next tail is)
    ∙ ap (λ z. block sheet (in_spot spot a) ++ z) (blocks_run ui w spot (a + 1) n next tail (omega arith) (omega (arith, is)) high)

sides_last : (ui : Bool) (w : ℕ) (spot : Spot) (l n line : ℕ) (rest : List (List ℕ)) → l + n ≡ line → map (side ui w spot) (range_with_len l n) ++ side ui w spot line ∷ rest ≡ map (side ui w spot) (range_with_len l (suc n)) ++ rest
sides_last ui w spot l n line rest is =
    sym (
    ap (λ z. map (side ui w spot) z ++ rest) (range_last l n)
    ∙ ap (λ z. z ++ rest) (map-append (side ui w spot) (range_with_len l n) ((l + n) ∷ []))
    ∙ append_assoc (map (side ui w spot) (range_with_len l n)) (side ui w spot (l + n) ∷ []) rest
    ∙ ap (λ k. map (side ui w spot) (range_with_len l n) ++ side ui w spot k ∷ rest) is)

-- ---- all rows

-- the lines behind the first: all, or the next three and the last two
abbrev pub inner : Bool → ℕ → Spot → Bool → List (List ℕ)
inner ui w spot far =
    cond far
    (map (side ui w spot) (range_with_len (spot.reach.first.line + 1) 3) ++ dots w ∷ map (side ui w spot) (range_with_len (spot.reach.last.line - 1) 2))
    (map (side ui w spot) (range_with_len (spot.reach.first.line + 1) (spot.reach.last.line - spot.reach.first.line)))

abbrev pub last_row : ℕ → Reach → Option Text → List ℕ
last_row w reach label = last_under w reach.last.col_display (chars (label_bytes label))

-- the first line, those behind it, and what stands under the last
abbrev pub rows_of : Bool → ℕ → File → Reach → Option Text → Bool → List (List ℕ)
rows_of ui w file reach label far = block (wide_sheet ui w (wide_spot file reach label)) (in_spot (wide_spot file reach label) reach.first.line) ++ (inner ui w (wide_spot file reach label) far ++ last_row w reach label ∷ [])

abbrev Blocks : Bool → ℕ → File → Reach → Option Text → Bool → Type 0
Blocks ui w file reach label far = line_blocks (wide_sheet ui w (wide_spot file reach label)) file (lines_put (spot_lines (wide_spot file reach label)) []) ≡ rows_of ui w file reach label far

near_blocks : (ui : Bool) (w : ℕ) (file : File) (reach : Reach) (label : Option Text) → 0 < reach.last.col_display → reach.first.line < reach.last.line → reach.last.line ≤ reach.first.line + 4 → Blocks ui w file reach label false
near_blocks ui w file reach label some less near =
    let spot = wide_spot file reach label in
    let sheet = wide_sheet ui w spot in
    let a = reach.first.line in
    let b = reach.last.line in
    let k = b - a - 1 in
    let first = block sheet (in_spot spot a) in
    let under = last_row w reach label in
    ap (line_blocks sheet file) (shown_near file reach label less (omega (arith, near)) ∙ ap (λ n. range_with_len a n ++ b ∷ []) (let e : min (a + 4) b - a ≡ suc k = omega (arith, less, near) in e))
    ∙ blocks_first ui w spot k b [] (omega (arith, less)) (omega arith)
    ∙ ap (λ z. first ++ (map (side ui w spot) (range_with_len (a + 1) k) ++ z)) (block_last ui w file reach label less some)
    ∙ ap (λ z. first ++ z) (sides_last ui w spot (a + 1) k b (under ∷ []) (omega (arith, less)) ∙ ap (λ n. map (side ui w spot) (range_with_len (a + 1) n) ++ under ∷ []) (let e : suc k ≡ b - a = omega (arith, less) in e))

-- three lines, and what follows them
three_blocks : (ui : Bool) (w : ℕ) (file : File) (reach : Reach) (label : Option Text) (rest : List ℕ) → reach.first.line + 4 < reach.last.line → line_blocks (wide_sheet ui w (wide_spot file reach label)) file (first_four reach ++ rest) ≡ block (wide_sheet ui w (wide_spot file reach label)) (in_spot (wide_spot file reach label) reach.first.line) ++ (map (side ui w (wide_spot file reach label)) (range_with_len (reach.first.line + 1) 3) ++ (gap_before (wide_sheet ui w (wide_spot file reach label)) file (reach.first.line + 3) rest ++ line_blocks (wide_sheet ui w (wide_spot file reach label)) file rest))
three_blocks ui w file reach label rest far =
    let spot = wide_spot file reach label in
    let sheet = wide_sheet ui w spot in
    let a = reach.first.line in
    let b = reach.last.line in
    let first = block sheet (in_spot spot a) in
    let behind = gap_before sheet file (a + 3) rest ++ line_blocks sheet file rest in
    let four : range_with_len a 4 ++ rest ≡ a ∷ (range_with_len (a + 1) 2 ++ (a + 3) ∷ rest) =
    ap (λ z. a ∷ (z ++ rest)) (range_last (a + 1) 2)
    ∙ ap (λ z. a ∷ z) (append_assoc (range_with_len (a + 1) 2) ((a + 1 + 2) ∷ []) rest)
    ∙ ap (λ k. a ∷ (range_with_len (a + 1) 2 ++ k ∷ rest)) (let e : a + 1 + 2 ≡ a + 3 = omega arith in e) in
    ap (line_blocks sheet file) (ap (λ n. range_with_len a n ++ rest) (let e : min (a + 4) b - a ≡ 4 = omega (arith, far) in e) ∙ four)
    ∙ blocks_first ui w spot 2 (a + 3) rest (omega arith) (omega (arith, far))
    ∙ ap (λ z. first ++ (map (side ui w spot) (range_with_len (a + 1) 2) ++ z)) (blocks_are sheet file (a + 3) rest ∙ ap (λ z. z ++ behind) (block_inner ui w spot (a + 3) (omega arith) (omega (arith, far))))
    ∙ ap (λ z. first ++ z) (sides_last ui w spot (a + 1) 2 (a + 3) behind (omega arith))

five_blocks : (ui : Bool) (w : ℕ) (file : File) (reach : Reach) (label : Option Text) → 0 < reach.last.col_display → reach.last.line ≡ reach.first.line + 5 → Blocks ui w file reach label false
five_blocks ui w file reach label some is =
    let spot = wide_spot file reach label in
    let sheet = wide_sheet ui w spot in
    let a = reach.first.line in
    let b = reach.last.line in
    let first = block sheet (in_spot spot a) in
    let under = last_row w reach label in
    ap (line_blocks sheet file) (shown_near file reach label (omega (arith, is)) (omega (arith, is)))
    ∙ three_blocks ui w file reach label (b ∷ []) (omega (arith, is))
    ∙ ap (λ z. first ++ (map (side ui w spot) (range_with_len (a + 1) 3) ++ (z ++ block sheet (in_spot spot b)))) (gap_one ui w spot (a + 3) b (omega (arith, is)) (omega arith) (omega (arith, is)))
    ∙ ap (λ z. first ++ (map (side ui w spot) (range_with_len (a + 1) 3) ++ side ui w spot (a + 3 + 1) ∷ z)) (block_last ui w file reach label (omega (arith, is)) some)
    ∙ ap (λ z. first ++ z)
    (sides_last ui w spot (a + 1) 3 (a + 3 + 1) (side ui w spot b ∷ under ∷ []) (omega arith)
    ∙ sides_last ui w spot (a + 1) 4 b (under ∷ []) (omega (arith, is))
    ∙ ap (λ n. map (side ui w spot) (range_with_len (a + 1) n) ++ under ∷ []) (let e : 5 ≡ b - a = omega (arith, is) in e))

-- the last two lines
two_blocks : (ui : Bool) (w : ℕ) (file : File) (reach : Reach) (label : Option Text) → 0 < reach.last.col_display → reach.first.line + 5 < reach.last.line → line_blocks (wide_sheet ui w (wide_spot file reach label)) file ((reach.last.line - 1) ∷ reach.last.line ∷ []) ≡ side ui w (wide_spot file reach label) (reach.last.line - 1) ∷ side ui w (wide_spot file reach label) reach.last.line ∷ last_row w reach label ∷ []
two_blocks ui w file reach label some far =
    let spot = wide_spot file reach label in
    let sheet = wide_sheet ui w spot in
    let b = reach.last.line in
    ap (λ z. z ++ (gap sheet file (b - 1) b ++ block sheet (in_spot spot b))) (block_inner ui w spot (b - 1) (omega (arith, far)) (omega (arith, far)))
    ∙ ap (λ z. side ui w spot (b - 1) ∷ (z ++ block sheet (in_spot spot b))) (no_gap ui w spot (b - 1) b (omega (arith, far)))
    ∙ ap (λ z. side ui w spot (b - 1) ∷ z) (block_last ui w file reach label (omega (arith, far)) some)

six_blocks : (ui : Bool) (w : ℕ) (file : File) (reach : Reach) (label : Option Text) → 0 < reach.last.col_display → reach.last.line ≡ reach.first.line + 6 → Blocks ui w file reach label false
six_blocks ui w file reach label some is =
    let spot = wide_spot file reach label in
    let sheet = wide_sheet ui w spot in
    let a = reach.first.line in
    let b = reach.last.line in
    let first = block sheet (in_spot spot a) in
    let under = last_row w reach label in
    ap (line_blocks sheet file) (shown_far file reach label (omega (arith, is)))
    ∙ three_blocks ui w file reach label ((b - 1) ∷ b ∷ []) (omega (arith, is))
    ∙ ap (λ z. first ++ (map (side ui w spot) (range_with_len (a + 1) 3) ++ (z ++ line_blocks sheet file ((b - 1) ∷ b ∷ [])))) (gap_one ui w spot (a + 3) (b - 1) (omega (arith, is)) (omega arith) (omega (arith, is)))
    ∙ ap (λ z. first ++ (map (side ui w spot) (range_with_len (a + 1) 3) ++ side ui w spot (a + 3 + 1) ∷ z)) (two_blocks ui w file reach label some (omega (arith, is)))
    ∙ ap (λ z. first ++ z)
    (sides_last ui w spot (a + 1) 3 (a + 3 + 1) (side ui w spot (b - 1) ∷ side ui w spot b ∷ under ∷ []) (omega arith)
    ∙ sides_last ui w spot (a + 1) 4 (b - 1) (side ui w spot b ∷ under ∷ []) (omega (arith, is))
    ∙ sides_last ui w spot (a + 1) 5 b (under ∷ []) (omega (arith, is))
    ∙ ap (λ n. map (side ui w spot) (range_with_len (a + 1) n) ++ under ∷ []) (let e : 6 ≡ b - a = omega (arith, is) in e))

far_blocks : (ui : Bool) (w : ℕ) (file : File) (reach : Reach) (label : Option Text) → 0 < reach.last.col_display → reach.first.line + 6 < reach.last.line → Blocks ui w file reach label true
far_blocks ui w file reach label some far =
    let spot = wide_spot file reach label in
    let sheet = wide_sheet ui w spot in
    let a = reach.first.line in
    let b = reach.last.line in
    let first = block sheet (in_spot spot a) in
    let under = last_row w reach label in
    let three = map (side ui w spot) (range_with_len (a + 1) 3) in
    ap (line_blocks sheet file) (shown_far file reach label (omega (arith, far)))
    ∙ three_blocks ui w file reach label ((b - 1) ∷ b ∷ []) (omega (arith, far))
    ∙ ap (λ z. first ++ (three ++ (z ++ line_blocks sheet file ((b - 1) ∷ b ∷ [])))) (gap_dots ui w spot (a + 3) (b - 1) (omega (arith, far)) (omega arith) (omega (arith, far)))
    ∙ ap (λ z. first ++ (three ++ dots w ∷ z)) (two_blocks ui w file reach label some (omega (arith, far)))
    ∙ ap (λ k. first ++ (three ++ dots w ∷ side ui w spot (b - 1) ∷ side ui w spot k ∷ under ∷ [])) (let e : b ≡ b - 1 + 1 = omega (arith, far) in e)
    ∙ ap (λ z. first ++ z) (sym (append_assoc three (dots w ∷ map (side ui w spot) (range_with_len (b - 1) 2)) (under ∷ [])))

-- ---- which of them it is

pub far_is : (ui : Bool) (w : ℕ) (file : File) (reach : Reach) (label : Option Text) (far : Bool) → 0 < reach.last.col_display → reach.first.line < reach.last.line → nat_lt (reach.first.line + 6) reach.last.line ≡ far → (near : Bool) → nat_le reach.last.line (reach.first.line + 4) ≡ near → (five : Bool) → nat_eq reach.last.line (reach.first.line + 5) ≡ five → Blocks ui w file reach label far
far_is ui w file reach label true some less far near n five f = far_blocks ui w file reach label some (grind (arith, nat_tests))
far_is ui w file reach label false some less far true n five f = near_blocks ui w file reach label some less (grind (arith, nat_tests))
far_is ui w file reach label false some less far false n true f = five_blocks ui w file reach label some (grind (arith, nat_tests))
far_is ui w file reach label false some less far false n false f = six_blocks ui w file reach label some (grind (arith, nat_tests))

pub wide_blocks : (ui : Bool) (w : ℕ) (file : File) (reach : Reach) (label : Option Text) → 0 < reach.last.col_display → reach.first.line < reach.last.line → line_blocks (wide_sheet ui w (wide_spot file reach label)) file (lines_put (spot_lines (wide_spot file reach label)) []) ≡ first_rows ui w (wide_spot file reach label) (begins (wide_spot file reach label)) ++ (inner ui w (wide_spot file reach label) (nat_lt (reach.first.line + 6) reach.last.line) ++ last_row w reach label ∷ [])
wide_blocks ui w file reach label some less =
    far_is ui w file reach label (nat_lt (reach.first.line + 6) reach.last.line) some less refl (nat_le reach.last.line (reach.first.line + 4)) refl (nat_eq reach.last.line (reach.first.line + 5)) refl
    ∙ ap (λ z. z ++ (inner ui w (wide_spot file reach label) (nat_lt (reach.first.line + 6) reach.last.line) ++ last_row w reach label ∷ [])) (block_first ui w file reach label less)
