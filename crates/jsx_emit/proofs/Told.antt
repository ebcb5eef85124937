-- The lines that are told of one span are those that are drawn.
use Rattle.std.proofs.Common.{◌≡◌, ℕ, zero, suc, ◌+◌, ◌-◌, ◌<◌, ◌/◌, ◌%◌, ◌==◌, Bool, true, false, cond, List, [], ◌∷◌, ◌++◌, map, length, take, drop, refl, ap, sym, ◌∙◌, arith, append_assoc, append-nil}
use Rattle.std.specs.Prelude.{decimal, replicate, codes, if◌then◌else◌}
use Rattle.std.specs.Fmt.{digit_glyph, digits, digits_onto}
use Rattle.std.specs.Str.{encode_utf8_all}
use Rattle.std.proofs.Math.Seq.{take-append_seam, drop-append_seam}
use Rattle.std.proofs.lemmas.Bool.Decides.{nat_tests}
use Rattle.std.proofs.lemmas.List.{length-append, length-replicate, map-append}
use Rattle.std.proofs.lemmas.Str.{encode_ascii, encodes-append}
use Rattle.jsx_diag.specs.declared.level.Style.TheVariants as style
use Rattle.jsx_draw.specs.Grid.{Cell, blank, in_style, padded, put, put_all, put_cell, put_text}
use Rattle.jsx_emit.specs.Page.{blanks, page_text, spaced, rows_text}
use Rattle.jsx_emit.specs.Written.{row_chars}
use Rattle.jsx_draw.specs.Drawn.{across, frame}
use Rattle.jsx_emit.specs.Sheets.{number_in}
use Rattle.jsx_draw.proofs.Grids.{extended_none, length-extended, put_behind_end}
use Rattle.jsx_emit.proofs.Rows.{spaced_encoded}
use Rattle.jsx_emit.proofs.Sources.{all_behind, change_one, put_end}

-- ---- lines and rows

-- each line is the bytes of its row
pub lines_as_rows : (rows : List (List ℕ)) → page_text (map encode_utf8_all rows) ≡ rows_text rows
lines_as_rows [] = refl
lines_as_rows (row ∷ rows) = ap (λ z. (z ++ 10 ∷ []) ++ page_text (map encode_utf8_all rows)) (spaced_encoded row) ∙ ap (λ z. (encode_utf8_all (spaced row) ++ 10 ∷ []) ++ z) (lines_as_rows rows)

-- ---- rows that are drawn from left to right

abbrev same_cells : ℕ → Cell → List Cell
same_cells n cell = replicate n cell

pub put_mid : (front back : List Cell) (x y : Cell) → put (length front) x (front ++ y ∷ back) ≡ front ++ x ∷ back
put_mid front back x y =
    let row = front ++ y ∷ back in
    let same : padded (length front) row ≡ row = extended_none blank (length front) row (omega (arith, length-append front (y ∷ back))) in
    ap (λ z. take (length front) z ++ x ∷ drop (length front + 1) row) same
    ∙ ap (λ z. z ++ x ∷ drop (length front + 1) row) (take-append_seam front (y ∷ back))
    ∙ ap (λ z. front ++ x ∷ z) (
    ap (λ k. drop k row) (let e : length front + 1 ≡ length (front ++ y ∷ []) = omega (arith, length-append front (y ∷ [])) in e)
    ∙ ap (drop (length (front ++ y ∷ []))) (sym (append_assoc front (y ∷ []) back))
    ∙ drop-append_seam (front ++ y ∷ []) back)

-- cells put n columns behind the end
put_past : (n : ℕ) (cell : Cell) (row : List Cell) → put (length row + n) cell row ≡ row ++ (replicate n blank ++ cell ∷ [])
put_past n cell row =
    sym (put_behind_end (length row + n) cell row (padded (length row + n) row) refl (omega (arith, length-extended blank (length row + n) row)))
    ∙ ap (λ k. (row ++ replicate k blank) ++ cell ∷ []) (let e : length row + n - length row ≡ n = omega arith in e)
    ∙ append_assoc row (replicate n blank) (cell ∷ [])

pub all_past : (n : ℕ) (cell : Cell) (cells row : List Cell) → put_all (length row + n) (cell ∷ cells) row ≡ row ++ (replicate n blank ++ cell ∷ cells)
all_past n cell cells row =
    let grown = row ++ (replicate n blank ++ cell ∷ []) in
    let long : length row + n + 1 ≡ length grown = omega (arith, length-append row (replicate n blank ++ cell ∷ []), length-append (replicate n blank) (cell ∷ []), length-replicate n blank) in
    ap (put_all (length row + n + 1) cells) (put_past n cell row)
    ∙ ap (λ k. put_all k cells grown) long
    ∙ all_behind cells grown
    ∙ append_assoc row (replicate n blank ++ cell ∷ []) cells
    ∙ ap (λ z. row ++ z) (append_assoc (replicate n blank) (cell ∷ []) cells)

-- a run of cells in a row
abbrev across_row : ℕ → ℕ → Cell → List Cell → List Cell
across_row from zero cell row = row
across_row from (suc n) cell row = put (from + n) cell (across_row from n cell row)

pub across_one : (from n : ℕ) (cell : Cell) (row : List Cell) → across 0 from n cell (row ∷ []) ≡ across_row from n cell row ∷ []
across_one from zero cell row = refl
across_one from (suc n) cell row = ap (put_cell 0 (from + n) cell) (across_one from n cell row) ∙ change_one (put (from + n) cell) (across_row from n cell row)

pub repeat_next : {X : Type 0} (n : ℕ) (x : X) (xs : List X) → replicate (suc n) x ++ xs ≡ replicate n x ++ x ∷ xs
repeat_next zero x xs = refl
repeat_next (suc n) x xs = ap (λ z. x ∷ z) (repeat_next n x xs)

across_mid : (front back : List Cell) (n : ℕ) (cell : Cell) → across_row (length front) n cell (front ++ (replicate n blank ++ back)) ≡ front ++ (replicate n cell ++ back)
across_mid front back zero cell = refl
across_mid front back (suc n) cell =
    let done = front ++ replicate n cell in
    let long : length front + n ≡ length done = omega (arith, length-append front (replicate n cell), length-replicate n cell) in
    ap (λ z. put (length front + n) cell (across_row (length front) n cell (front ++ z))) (repeat_next n blank back)
    ∙ ap (put (length front + n) cell) (across_mid front (blank ∷ back) n cell ∙ sym (append_assoc front (replicate n cell) (blank ∷ back)))
    ∙ ap (λ k. put k cell (done ++ blank ∷ back)) long
    ∙ put_mid done back cell blank
    ∙ append_assoc front (replicate n cell) (cell ∷ back)
    ∙ ap (λ z. front ++ z) (sym (repeat_next n cell back))

across_past : (m n : ℕ) (cell : Cell) (row : List Cell) → across_row (length row + m) (suc n) cell row ≡ row ++ (replicate m blank ++ replicate (suc n) cell)
across_past m zero cell row = ap (λ k. put k cell row) (let e : length row + m + 0 ≡ length row + m = omega arith in e) ∙ put_past m cell row
across_past m (suc n) cell row =
    let done = row ++ (replicate m blank ++ replicate (suc n) cell) in
    let long : length row + m + suc n ≡ length done = omega (arith, length-append row (replicate m blank ++ replicate (suc n) cell), length-append (replicate m blank) (replicate (suc n) cell), length-replicate m blank, length-replicate (suc n) cell) in
    ap (put (length row + m + suc n) cell) (across_past m n cell row)
    ∙ ap (λ k. put k cell done) long
    ∙ put_end done cell
    ∙ append_assoc row (replicate m blank ++ replicate (suc n) cell) (cell ∷ [])
    ∙ ap (λ z. row ++ z) (append_assoc (replicate m blank) (replicate (suc n) cell) (cell ∷ []) ∙ ap (λ z. replicate m blank ++ z) (sym (repeat_next (suc n) cell []) ∙ append-nil (replicate (suc (suc n)) cell)))

pub chars_again : (n : ℕ) (cell : Cell) → row_chars (replicate n cell) ≡ replicate n cell.0
chars_again zero cell = refl
chars_again (suc n) cell = ap (λ z. cell.0 ∷ z) (chars_again n cell)

pub chars_both : (xs ys : List Cell) → row_chars (xs ++ ys) ≡ row_chars xs ++ row_chars ys
chars_both xs ys = map-append (λ (z : Cell). z.0) xs ys

repeat_sum : {X : Type 0} (m n : ℕ) (x : X) (xs : List X) → replicate (m + n) x ++ xs ≡ replicate m x ++ (replicate n x ++ xs)
repeat_sum zero n x xs = ap (λ k. replicate k x ++ xs) (let e : 0 + n ≡ n = omega arith in e)
repeat_sum (suc m) n x xs = ap (λ k. replicate k x ++ xs) (let e : suc m + n ≡ suc (m + n) = omega arith in e) ∙ ap (λ z. x ∷ z) (repeat_sum m n x xs)

-- ---- the row under a span on one line

-- the bar behind the numbers
abbrev bar_cells_of : List Cell
bar_cells_of = in_style style.LineNumber (codes "| ")

abbrev pub base : ℕ → List Cell
base w = replicate (w + 1) blank ++ bar_cells_of

pub base_long : (w : ℕ) → length (base w) ≡ w + 3
base_long w = omega (arith, length-append (replicate (w + 1) blank) bar_cells_of, length-replicate (w + 1) blank)

pub frame_one : (w : ℕ) → frame (w + 2 - 1) 1 ≡ base w ∷ []
frame_one w =
    ap (λ k. put_all k bar_cells_of [] ∷ []) (let e : w + 2 - 1 ≡ 0 + (w + 1) = omega arith in e)
    ∙ ap (λ z. z ∷ []) (all_past (w + 1) (124, style.LineNumber) ((32, style.LineNumber) ∷ []) [])

-- carets, and nothing behind them
pub bare_row : (w s n : ℕ) (cell : Cell) → 0 < n → across 0 (w + 3 + s) n cell (base w ∷ []) ≡ (base w ++ (replicate s blank ++ replicate n cell)) ∷ []
bare_row w s zero cell some = absurd (let no : ⊥ = omega (arith, some) in no)
bare_row w s (suc n) cell some =
    across_one (w + 3 + s) (suc n) cell (base w)
    ∙ ap (λ k. across_row (k + s) (suc n) cell (base w) ∷ []) (sym (base_long w))
    ∙ ap (λ z. z ∷ []) (across_past s n cell (base w))

-- carets, a blank, and a label
pub labelled_row : (w s n : ℕ) (cell first : Cell) (label : List Cell) → across 0 (w + 3 + s) n cell (put_text 0 (w + 3 + (s + n + 1)) (first ∷ label) (base w ∷ [])) ≡ (base w ++ (replicate s blank ++ (replicate n cell ++ (blank ∷ first ∷ label)))) ∷ []
labelled_row w s n cell first label =
    let front = base w ++ replicate s blank in
    let split : replicate (s + n + 1) blank ++ first ∷ label ≡ replicate s blank ++ (replicate n blank ++ (blank ∷ first ∷ label)) =
    ap (λ k. replicate k blank ++ first ∷ label) (let e : s + n + 1 ≡ suc (s + n) = omega arith in e)
    ∙ repeat_next (s + n) blank (first ∷ label)
    ∙ repeat_sum s n blank (blank ∷ first ∷ label) in
    let put_label : put_text 0 (w + 3 + (s + n + 1)) (first ∷ label) (base w ∷ []) ≡ (front ++ (replicate n blank ++ (blank ∷ first ∷ label))) ∷ [] =
    change_one (put_all (w + 3 + (s + n + 1)) (first ∷ label)) (base w)
    ∙ ap (λ k. put_all (k + (s + n + 1)) (first ∷ label) (base w) ∷ []) (sym (base_long w))
    ∙ ap (λ z. z ∷ []) (all_past (s + n + 1) first label (base w) ∙ ap (λ z. base w ++ z) split ∙ sym (append_assoc (base w) (replicate s blank) (replicate n blank ++ (blank ∷ first ∷ label)))) in
    let long : w + 3 + s ≡ length front = omega (arith, base_long w, length-append (base w) (replicate s blank), length-replicate s blank) in
    ap (across 0 (w + 3 + s) n cell) put_label
    ∙ across_one (w + 3 + s) n cell (front ++ (replicate n blank ++ (blank ∷ first ∷ label)))
    ∙ ap (λ k. across_row k n cell (front ++ (replicate n blank ++ (blank ∷ first ∷ label))) ∷ []) long
    ∙ ap (λ z. z ∷ []) (across_mid front (blank ∷ first ∷ label) n cell ∙ append_assoc (base w) (replicate s blank) (replicate n cell ++ (blank ∷ first ∷ label)))

-- one cell behind the end
pub one_more : (k : ℕ) (cell : Cell) (row : List Cell) → k ≡ length row → across 0 k 1 cell (row ∷ []) ≡ (row ++ cell ∷ []) ∷ []
one_more k cell row long =
    across_one k 1 cell row
    ∙ ap (λ n. put n cell row ∷ []) (let e : k + 0 ≡ length row = omega (arith, long) in e)
    ∙ ap (λ z. z ∷ []) (put_end row cell)

-- one cell in the middle
pub one_mid : (k : ℕ) (cell other : Cell) (front back : List Cell) → k ≡ length front → across 0 k 1 cell ((front ++ other ∷ back) ∷ []) ≡ (front ++ cell ∷ back) ∷ []
one_mid k cell other front back long =
    across_one k 1 cell (front ++ other ∷ back)
    ∙ ap (λ n. put n cell (front ++ other ∷ back) ∷ []) (let e : k + 0 ≡ length front = omega (arith, long) in e)
    ∙ ap (λ z. z ∷ []) (put_mid front back cell other)

-- ---- characters that are their own bytes

abbrev pub Plain : List ℕ → Type 0
Plain xs = encode_utf8_all xs ≡ xs

pub plain_both : (xs ys : List ℕ) → Plain xs → Plain ys → Plain (xs ++ ys)
plain_both xs ys p q = encodes-append xs ys ∙ ap (λ z. z ++ encode_utf8_all ys) p ∙ ap (λ z. xs ++ z) q

pub plain_first : (c : ℕ) (xs : List ℕ) → c < 128 → encode_utf8_all (c ∷ xs) ≡ c ∷ encode_utf8_all xs
plain_first c xs small = ap (λ z. z ++ encode_utf8_all xs) (encode_ascii c small)

pub plain_again : (n c : ℕ) → c < 128 → Plain (replicate n c)
plain_again zero c small = refl
plain_again (suc n) c small = plain_first c (replicate n c) small ∙ ap (λ z. c ∷ z) (plain_again n c small)

small_glyph : (d : ℕ) → d < 10 → digit_glyph false d < 128
small_glyph d small = grind (arith, nat_tests)

plain_glyph : (n : ℕ) (acc : List ℕ) → Plain acc → Plain (digit_glyph false (n % 10) ∷ acc)
plain_glyph n acc p = plain_first (digit_glyph false (n % 10)) acc (small_glyph (n % 10) (omega arith)) ∙ ap (λ z. digit_glyph false (n % 10) ∷ z) p

plain_cases : (b : Bool) (xs ys : List ℕ) → Plain xs → Plain ys → Plain (if b then xs else ys)
plain_cases true xs ys p q = p
plain_cases false xs ys p q = q

plain_digits : (k n : ℕ) (acc : List ℕ) → Plain acc → Plain (digits_onto k 10 false n acc)
plain_digits zero n acc p = p
plain_digits (suc k) n acc p =
    plain_cases (n / 10 == 0) (digit_glyph false (n % 10) ∷ acc) (digits_onto k 10 false (n / 10) (digit_glyph false (n % 10) ∷ acc)) (plain_glyph n acc p) (plain_digits k (n / 10) (digit_glyph false (n % 10) ∷ acc) (plain_glyph n acc p))

plain_decimal : (n : ℕ) → Plain (decimal n)
unfolding digits
plain_decimal n = plain_digits 64 n [] refl

plain_letters : Plain (codes "LL")
unfolding lib.Utf8.encode
plain_letters = refl

plain_choice : (ui : Bool) (line : ℕ) → Plain (cond ui (codes "LL") (decimal line))
plain_choice true line = plain_letters
plain_choice false line = plain_decimal line

pub plain_number : (ui : Bool) (w line : ℕ) → Plain (number_in ui w line)
plain_number ui w line = plain_both (cond ui (codes "LL") (decimal line)) (blanks (w - length (cond ui (codes "LL") (decimal line)))) (plain_choice ui line) (plain_again (w - length (cond ui (codes "LL") (decimal line))) 32 (omega arith))

pub plain_bar : Plain (codes " |")
unfolding lib.Utf8.encode
plain_bar = refl

pub plain_mark : Plain (codes "| ")
unfolding lib.Utf8.encode
plain_mark = refl

-- a line with what stands before its text
pub line_encoded : (ui : Bool) (w line : ℕ) (mid text : List ℕ) → Plain mid → encode_utf8_all (number_in ui w line ++ (codes " |" ++ (mid ++ text))) ≡ number_in ui w line ++ (codes " |" ++ (mid ++ encode_utf8_all text))
line_encoded ui w line mid text plain =
    encodes-append (number_in ui w line) (codes " |" ++ (mid ++ text))
    ∙ ap (λ z. z ++ encode_utf8_all (codes " |" ++ (mid ++ text))) (plain_number ui w line)
    ∙ ap (λ z. number_in ui w line ++ z) (
    encodes-append (codes " |") (mid ++ text)
    ∙ ap (λ z. z ++ encode_utf8_all (mid ++ text)) plain_bar
    ∙ ap (λ z. codes " |" ++ z) (encodes-append mid text ∙ ap (λ z. z ++ encode_utf8_all text) plain))
