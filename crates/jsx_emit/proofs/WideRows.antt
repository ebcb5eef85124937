-- The rows of the lines of one span over several lines.
use Rattle.std.proofs.Common.{◌≡◌, ℕ, ◌+◌, ◌-◌, ◌<◌, ◌≤◌, Bool, true, false, not, ◌&&◌, ◌||◌, cond, nat_eq, nat_le, nat_lt, List, [], ◌∷◌, ◌++◌, Option, None, length, take, refl, ap, sym, ◌∙◌, arith, append_assoc, append-nil}
use Rattle.std.specs.Prelude.{replicate, codes}
use Rattle.std.specs.Char.{is_whitespace}
use Rattle.std.specs.List.{list_all, list_any}
use Rattle.std.specs.Str.{chars}
use Rattle.std.proofs.lemmas.Bool.Decides.{nat_tests}
use Rattle.std.proofs.lemmas.List.{length-append, length-replicate}
use Rattle.std.proofs.lemmas.Str.{chars-nil}
use Rattle.jsx_base.specs.Files.{File}
use Rattle.jsx_diag.specs.declared.level.Style.{Style}
use Rattle.jsx_diag.specs.declared.level.Style.TheVariants as style
use Rattle.jsx_diag.specs.Data.{Text}
use Rattle.jsx_draw.specs.Annotation.{First, Last, Mark, Multi, first_mark, last_mark, side_mark}
use Rattle.jsx_draw.specs.Grid.{Cell, Grid, blank, in_style, put, put_all, put_cell, put_text}
use Rattle.jsx_draw.specs.Spots.{Reach, ShownLine, Spot, label_bytes, spot_lines}
use Rattle.jsx_emit.specs.Page.{blanks, line_chars}
use Rattle.jsx_emit.specs.Written.{grid_chars, row_chars}
use Rattle.jsx_draw.specs.Drawn.{Columns, Wide, across, bar_of, bars_past, bars_to, draw_open, drawn, frame, goes_past, goes_to, label_style, laid_out, marks_in, multi_of_wide, under_line, underline, wide_at, wide_marks}
use Rattle.jsx_emit.specs.Sheets.{Sheet, block, dots_row, gap, line_row, marked_rows}
use Rattle.jsx_emit.proofs.Painting.{same_number}
use Rattle.jsx_emit.proofs.Sources.{change_one}
use Rattle.jsx_emit.proofs.Told.{all_past, bare_row, base, base_long, chars_again, chars_both, frame_one, one_mid, one_more, put_mid}
use Rattle.jsx_emit.proofs.ToldSingle.{alone, base_chars, behind_cells, behind_chars, behind_mark}

-- ---- tests of numbers

pub is_less : (m n : ℕ) → m < n → nat_lt m n ≡ true
is_less m n less = grind (arith, nat_tests)

pub not_less : (m n : ℕ) → n ≤ m → nat_lt m n ≡ false
not_less m n le = grind (arith, nat_tests)

is_most : (m n : ℕ) → m ≤ n → nat_le m n ≡ true
is_most m n le = grind (arith, nat_tests)

pub not_same : (m n : ℕ) → m < n → nat_eq m n ≡ false
not_same m n less = grind (arith, nat_tests)

pub not_same_back : (m n : ℕ) → m < n → nat_eq n m ≡ false
not_same_back m n less = grind (arith, nat_tests)

is_same : (m n : ℕ) → m ≡ n → nat_eq m n ≡ true
is_same m n same = grind (arith, nat_tests)

and_both : (a b : Bool) → a ≡ true → b ≡ true → (a && b) ≡ true
and_both a b p q = ap (λ z. z && b) p ∙ q

and_not : (a b : Bool) → a ≡ false → (a && b) ≡ false
and_not a b p = ap (λ z. z && b) p

-- ---- the sheet

abbrev pub only_wide : Spot → List Wide
only_wide spot = record { spot = spot; depth = 1 } ∷ []

abbrev pub wide_sheet : Bool → ℕ → Spot → Sheet
wide_sheet ui w spot = record { ui_testing = ui; width = w; depth = 1; singles = []; wides = only_wide spot }

abbrev pub in_spot : Spot → ℕ → ShownLine
in_spot spot line = record { file = spot.file; line = line }

abbrev multi : Spot → Multi
multi spot = multi_of_wide (record { spot = spot; depth = 1 })

marks_are : (spot : Spot) (line : ℕ) → marks_in [] (only_wide spot) (in_spot spot line) ≡ wide_at line (record { spot = spot; depth = 1 })
marks_are spot line =
    append-nil (wide_marks (in_spot spot line) (record { spot = spot; depth = 1 }))
    ∙ ap (λ b. cond b (wide_at line (record { spot = spot; depth = 1 })) []) (same_number spot.file.start)

bars_to_are : (spot : Spot) (line : ℕ) (t : Bool) → (nat_lt spot.reach.first.line line && nat_le line spot.reach.last.line) ≡ t → bars_to (only_wide spot) (in_spot spot line) ≡ cond t (1 ∷ []) []
bars_to_are spot line t is =
    append-nil (bar_of (goes_to (in_spot spot line)) (record { spot = spot; depth = 1 }))
    ∙ ap (λ z. cond (z && (nat_lt spot.reach.first.line line && nat_le line spot.reach.last.line)) (1 ∷ []) []) (same_number spot.file.start)
    ∙ ap (λ z. cond z (1 ∷ []) []) is

bars_past_are : (spot : Spot) (line : ℕ) (t : Bool) → (nat_lt spot.reach.first.line line && nat_lt line spot.reach.last.line) ≡ t → bars_past (only_wide spot) (in_spot spot line) ≡ cond t (1 ∷ []) []
bars_past_are spot line t is =
    append-nil (bar_of (goes_past (in_spot spot line)) (record { spot = spot; depth = 1 }))
    ∙ ap (λ z. cond (z && (nat_lt spot.reach.first.line line && nat_lt line spot.reach.last.line)) (1 ∷ []) []) (same_number spot.file.start)
    ∙ ap (λ z. cond z (1 ∷ []) []) is

-- ---- lines between the first and the last

-- a line behind the first
abbrev pub side : Bool → ℕ → Spot → ℕ → List ℕ
side ui w spot line = line_row ui w 1 (1 ∷ []) 0 (in_spot spot line)

inner_marks : (spot : Spot) (line : ℕ) → spot.reach.first.line < line → line < spot.reach.last.line → marks_in [] (only_wide spot) (in_spot spot line) ≡ cond (list_any (nat_eq line) (spot_lines spot)) (side_mark (multi spot) ∷ []) []
inner_marks spot line low high =
    let rest = cond (list_any (nat_eq line) (spot_lines spot)) (side_mark (multi spot) ∷ []) [] in
    marks_are spot line
    ∙ ap (λ b. cond b (first_mark (multi spot) ∷ []) (cond (nat_eq line spot.reach.last.line) (last_mark (multi spot) ∷ []) rest)) (not_same_back spot.reach.first.line line low)
    ∙ ap (λ b. cond b (last_mark (multi spot) ∷ []) rest) (not_same line spot.reach.last.line high)

inner_rows : (ui : Bool) (w : ℕ) (spot : Spot) (line : ℕ) (shown : Bool) → marked_rows (wide_sheet ui w spot) (cond shown (side_mark (multi spot) ∷ []) []) (in_spot spot line) ≡ line_row ui w 1 (bars_to (only_wide spot) (in_spot spot line)) 0 (in_spot spot line) ∷ []
inner_rows ui w spot line true = refl
inner_rows ui w spot line false = refl

pub block_inner : (ui : Bool) (w : ℕ) (spot : Spot) (line : ℕ) → spot.reach.first.line < line → line < spot.reach.last.line → block (wide_sheet ui w spot) (in_spot spot line) ≡ side ui w spot line ∷ []
block_inner ui w spot line low high =
    ap (λ ms. marked_rows (wide_sheet ui w spot) ms (in_spot spot line)) (inner_marks spot line low high)
    ∙ inner_rows ui w spot line (list_any (nat_eq line) (spot_lines spot))
    ∙ ap (λ bars. line_row ui w 1 bars 0 (in_spot spot line) ∷ []) (bars_to_are spot line true (and_both (nat_lt spot.reach.first.line line) (nat_le line spot.reach.last.line) (is_less spot.reach.first.line line low) (is_most line spot.reach.last.line (omega (arith, high)))))

-- ---- between two lines

pub no_gap : (ui : Bool) (w : ℕ) (spot : Spot) (line next : ℕ) → next ≡ line + 1 → gap (wide_sheet ui w spot) spot.file line next ≡ []
no_gap ui w spot line next is =
    let between = line_row ui w 1 (bars_past (only_wide spot) (in_spot spot (line + 1))) 0 (in_spot spot (line + 1)) ∷ [] in
    ap (λ b. cond b (dots_row (wide_sheet ui w spot) (in_spot spot (line + 1))) (cond (nat_eq (line + 2) next) between [])) (not_less (line + 2) next (omega (arith, is)))
    ∙ ap (λ b. cond b between []) (not_same_back next (line + 2) (omega (arith, is)))

past_inner : (spot : Spot) (line : ℕ) → spot.reach.first.line < line → line < spot.reach.last.line → bars_past (only_wide spot) (in_spot spot line) ≡ 1 ∷ []
past_inner spot line low high = bars_past_are spot line true (and_both (nat_lt spot.reach.first.line line) (nat_lt line spot.reach.last.line) (is_less spot.reach.first.line line low) (is_less line spot.reach.last.line high))

pub gap_one : (ui : Bool) (w : ℕ) (spot : Spot) (line next : ℕ) → next ≡ line + 2 → spot.reach.first.line < line + 1 → line + 1 < spot.reach.last.line → gap (wide_sheet ui w spot) spot.file line next ≡ side ui w spot (line + 1) ∷ []
gap_one ui w spot line next is low high =
    let between = line_row ui w 1 (bars_past (only_wide spot) (in_spot spot (line + 1))) 0 (in_spot spot (line + 1)) ∷ [] in
    ap (λ b. cond b (dots_row (wide_sheet ui w spot) (in_spot spot (line + 1))) (cond (nat_eq (line + 2) next) between [])) (not_less (line + 2) next (omega (arith, is)))
    ∙ ap (λ b. cond b between []) (is_same (line + 2) next (sym is))
    ∙ ap (λ bars. line_row ui w 1 bars 0 (in_spot spot (line + 1)) ∷ []) (past_inner spot (line + 1) low high)

-- dots, and the bar
abbrev pub dots : ℕ → List ℕ
dots w = (codes "..." ++ blanks w) ++ 124 ∷ []

abbrev dots_cells : List Cell
dots_cells = in_style style.LineNumber (codes "...")

dots_drawn : (w : ℕ) → grid_chars (put_cell 0 (w + 2 + 1) (124, style.UnderlinePrimary) (dots_cells ∷ [])) ≡ dots w ∷ []
dots_drawn w =
    ap grid_chars (
    change_one (put (w + 2 + 1) (124, style.UnderlinePrimary)) dots_cells
    ∙ ap (λ k. put k (124, style.UnderlinePrimary) dots_cells ∷ []) (let e : w + 2 + 1 ≡ length dots_cells + w = omega arith in e)
    ∙ ap (λ z. z ∷ []) (all_past w (124, style.UnderlinePrimary) [] dots_cells))
    ∙ ap (λ z. z ∷ []) (
    chars_both dots_cells (replicate w blank ++ (124, style.UnderlinePrimary) ∷ [])
    ∙ ap (λ z. codes "..." ++ z) (chars_both (replicate w blank) ((124, style.UnderlinePrimary) ∷ []) ∙ ap (λ z. z ++ 124 ∷ []) (chars_again w blank))
    ∙ sym (append_assoc (codes "...") (blanks w) (124 ∷ [])))

dots_with : (w : ℕ) (bars : List ℕ) → bars ≡ 1 ∷ [] → grid_chars (drawn (draw_open (w + 2) 1) bars (put_text 0 0 dots_cells [])) ≡ dots w ∷ []
dots_with w bars is = ap (λ z. grid_chars (drawn (draw_open (w + 2) 1) z (put_text 0 0 dots_cells []))) is ∙ dots_drawn w

pub gap_dots : (ui : Bool) (w : ℕ) (spot : Spot) (line next : ℕ) → line + 2 < next → spot.reach.first.line < line + 1 → line + 1 < spot.reach.last.line → gap (wide_sheet ui w spot) spot.file line next ≡ dots w ∷ []
gap_dots ui w spot line next far low high =
    let between = line_row ui w 1 (bars_past (only_wide spot) (in_spot spot (line + 1))) 0 (in_spot spot (line + 1)) ∷ [] in
    ap (λ b. cond b (dots_row (wide_sheet ui w spot) (in_spot spot (line + 1))) (cond (nat_eq (line + 2) next) between [])) (is_less (line + 2) next far)
    ∙ dots_with w (bars_past (only_wide spot) (in_spot spot (line + 1))) (past_inner spot (line + 1) low high)

-- ---- the first line

-- the only span, which is primary
abbrev pub wide_spot : File → Reach → Option Text → Spot
wide_spot file reach label = record { file = file; reach = reach; is_primary = true; label = label }

-- only white space stands before the first place
abbrev pub begins : Spot → Bool
begins spot = list_all is_whitespace (take spot.reach.first.col_display (line_chars spot.file spot.reach.first.line))

-- underscores, and a caret
abbrev pub first_under : ℕ → ℕ → List ℕ
first_under w s = (blanks (w + 1) ++ codes "| ") ++ (32 ∷ (replicate (s + 1) 95 ++ 94 ∷ []))

abbrev wide_columns : ℕ → Columns
wide_columns w = record { bars = w + 2; code = w + 4 + 1 }

abbrev score : Cell
score = (95, style.UnderlinePrimary)

-- what is drawn of the first line's mark
abbrev first_grid : ℕ → ℕ → Grid
first_grid w s = across 0 (w + 4 + 1 + s) (w + 4 + 1 + (s + 1) - (w + 4 + 1 + s)) (underline true) (put_text 0 (w + 4 + 1 + (s + 1) + 1) (in_style (label_style true) (chars [])) (across 0 (w + 2 + 1 + 1) (w + 4 + 1 + s - (w + 2 + 1 + 1)) score (frame (w + 2 - 1) 1)))

abbrev mark_at : ℕ → Mark
mark_at s = record { start_col = s; end_col = s + 1; is_primary = true; label = None; kind = First 1 }

drawn_first : (w s : ℕ) → under_line (wide_columns w) [] (record { mark = mark_at s; row = 0 } ∷ []) ≡ first_grid w s
drawn_first w s = refl

abbrev first_cells : ℕ → ℕ → List Cell
first_cells w s = base w ++ (replicate 1 blank ++ replicate (s + 1) score)

first_grid_is : (w s : ℕ) → first_grid w s ≡ (first_cells w s ++ underline true ∷ []) ∷ []
first_grid_is w s =
    let row = first_cells w s in
    let long : w + 4 + 1 + s ≡ length row = omega (arith, length-append (base w) (replicate 1 blank ++ replicate (s + 1) score), length-append (replicate 1 blank) (replicate (s + 1) score), base_long w, length-replicate 1 blank, length-replicate (s + 1) score) in
    let one : w + 4 + 1 + (s + 1) - (w + 4 + 1 + s) ≡ 1 = omega arith in
    let from : w + 2 + 1 + 1 ≡ w + 3 + 1 = omega arith in
    let cells : w + 4 + 1 + s - (w + 2 + 1 + 1) ≡ s + 1 = omega arith in
    let scored : across 0 (w + 2 + 1 + 1) (w + 4 + 1 + s - (w + 2 + 1 + 1)) score (frame (w + 2 - 1) 1) ≡ row ∷ [] =
    ap (across 0 (w + 2 + 1 + 1) (w + 4 + 1 + s - (w + 2 + 1 + 1)) score) (frame_one w)
    ∙ ap (λ k. across 0 k (w + 4 + 1 + s - (w + 2 + 1 + 1)) score (base w ∷ [])) from
    ∙ ap (λ k. across 0 (w + 3 + 1) k score (base w ∷ [])) cells
    ∙ bare_row w 1 (s + 1) score (omega arith) in
    ap (λ z. across 0 (w + 4 + 1 + s) (w + 4 + 1 + (s + 1) - (w + 4 + 1 + s)) (underline true) (put_text 0 (w + 4 + 1 + (s + 1) + 1) (in_style (label_style true) (chars [])) z)) scored
    ∙ ap (λ z. across 0 (w + 4 + 1 + s) (w + 4 + 1 + (s + 1) - (w + 4 + 1 + s)) (underline true) (put_text 0 (w + 4 + 1 + (s + 1) + 1) (in_style (label_style true) z) (row ∷ []))) chars-nil
    ∙ ap (λ k. across 0 (w + 4 + 1 + s) k (underline true) (row ∷ [])) one
    ∙ one_more (w + 4 + 1 + s) (underline true) row long

first_chars : (w s : ℕ) → row_chars (first_cells w s ++ underline true ∷ []) ≡ first_under w s
first_chars w s =
    chars_both (first_cells w s) (underline true ∷ [])
    ∙ ap (λ z. z ++ 94 ∷ []) (chars_both (base w) (replicate 1 blank ++ replicate (s + 1) score) ∙ ap (λ z. z ++ row_chars (replicate 1 blank ++ replicate (s + 1) score)) (base_chars w) ∙ ap (λ z. (blanks (w + 1) ++ codes "| ") ++ 32 ∷ z) (chars_again (s + 1) score))
    ∙ append_assoc (blanks (w + 1) ++ codes "| ") (32 ∷ replicate (s + 1) 95) (94 ∷ [])

-- the line in which the span begins
abbrev pub first_rows : Bool → ℕ → Spot → Bool → List (List ℕ)
first_rows ui w spot true = line_row ui w 1 [] 1 (in_spot spot spot.reach.first.line) ∷ []
first_rows ui w spot false = line_row ui w 1 [] 0 (in_spot spot spot.reach.first.line) ∷ first_under w spot.reach.first.col_display ∷ []

abbrev slash_if : Bool → ℕ
slash_if t = cond t 1 0

abbrev marked_first : Bool → ℕ → Spot → Bool → List ℕ → List ℕ → List (List ℕ)
marked_first ui w spot t to past =
    line_row ui w 1 to (slash_if t) (in_spot spot spot.reach.first.line)
    ∷ cond (not (nat_eq (slash_if t) 0)) [] (grid_chars (under_line (wide_columns w) past (laid_out (mark_at spot.reach.first.col_display ∷ []))))

first_marked : (ui : Bool) (w : ℕ) (spot : Spot) (t : Bool) → marked_first ui w spot t [] [] ≡ first_rows ui w spot t
first_marked ui w spot true = refl
first_marked ui w spot false =
    let s = spot.reach.first.col_display in
    ap (λ z. line_row ui w 1 [] 0 (in_spot spot spot.reach.first.line) ∷ grid_chars (under_line (wide_columns w) [] z)) (alone (mark_at s))
    ∙ ap (λ z. line_row ui w 1 [] 0 (in_spot spot spot.reach.first.line) ∷ grid_chars z) (drawn_first w s ∙ first_grid_is w s)
    ∙ ap (λ z. line_row ui w 1 [] 0 (in_spot spot spot.reach.first.line) ∷ z ∷ []) (first_chars w s)

or_false : (a : Bool) → (a || false) ≡ a
or_false true = refl
or_false false = refl

first_block : (ui : Bool) (w : ℕ) (spot : Spot) (t : Bool) (to past : List ℕ) → begins spot ≡ t → line_row ui w 1 to (cond (begins spot) 1 0) (in_spot spot spot.reach.first.line) ∷ cond (not (nat_eq (cond (begins spot) 1 0) 0) || false) [] (grid_chars (under_line (wide_columns w) past (laid_out (mark_at spot.reach.first.col_display ∷ [])))) ≡ marked_first ui w spot t to past
first_block ui w spot t to past is =
    ap (λ b. line_row ui w 1 to (cond b 1 0) (in_spot spot spot.reach.first.line) ∷ cond (not (nat_eq (cond b 1 0) 0) || false) [] (grid_chars (under_line (wide_columns w) past (laid_out (mark_at spot.reach.first.col_display ∷ []))))) is
    ∙ ap (λ b. line_row ui w 1 to (slash_if t) (in_spot spot spot.reach.first.line) ∷ cond b [] (grid_chars (under_line (wide_columns w) past (laid_out (mark_at spot.reach.first.col_display ∷ []))))) (or_false (not (nat_eq (slash_if t) 0)))

pub block_first : (ui : Bool) (w : ℕ) (file : File) (reach : Reach) (label : Option Text) → reach.first.line < reach.last.line → block (wide_sheet ui w (wide_spot file reach label)) (in_spot (wide_spot file reach label) reach.first.line) ≡ first_rows ui w (wide_spot file reach label) (begins (wide_spot file reach label))
block_first ui w file reach label less =
    let spot = wide_spot file reach label in
    let a = reach.first.line in
    let b = reach.last.line in
    let at = in_spot spot a in
    let rest = cond (nat_eq a b) (last_mark (multi spot) ∷ []) (cond (list_any (nat_eq a) (spot_lines spot)) (side_mark (multi spot) ∷ []) []) in
    ap (λ ms. marked_rows (wide_sheet ui w spot) ms at) (marks_are spot a ∙ ap (λ z. cond z (first_mark (multi spot) ∷ []) rest) (same_number a))
    ∙ first_block ui w spot (begins spot) (bars_to (only_wide spot) at) (bars_past (only_wide spot) at) refl
    ∙ ap (λ z. marked_first ui w spot (begins spot) z (bars_past (only_wide spot) at)) (bars_to_are spot a false (and_not (nat_lt a a) (nat_le a b) (not_less a a (omega arith))))
    ∙ ap (λ z. marked_first ui w spot (begins spot) [] z) (bars_past_are spot a false (and_not (nat_lt a a) (nat_lt a b) (not_less a a (omega arith))))
    ∙ first_marked ui w spot (begins spot)

-- ---- the last line

-- the bar, underscores, a caret, and a label
abbrev pub last_under : ℕ → ℕ → List ℕ → List ℕ
last_under w e label = (blanks (w + 1) ++ codes "| ") ++ ((124 ∷ (replicate e 95 ++ 94 ∷ [])) ++ behind_mark label)

abbrev bar : Cell
bar = (124, style.UnderlinePrimary)

abbrev last_grid : ℕ → ℕ → List ℕ → Grid
last_grid w e label = across 0 (w + 4 + 1 + (e - 1)) (w + 4 + 1 + e - (w + 4 + 1 + (e - 1))) (underline true) (put_text 0 (w + 4 + 1 + e + 1) (in_style (label_style true) label) (put_cell (0 + 0) (w + 2 + 1) bar (across 0 (w + 2 + 1 + 1) (w + 4 + 1 + (e - 1) - (w + 2 + 1 + 1)) score (frame (w + 2 - 1) 1))))

abbrev end_at : ℕ → Option Text → Mark
end_at e label = record { start_col = e - 1; end_col = e; is_primary = true; label = label; kind = Last 1 }

drawn_last : (w e : ℕ) (label : Option Text) → under_line (wide_columns w) [] (record { mark = end_at e label; row = 0 } ∷ []) ≡ last_grid w e (chars (label_bytes label))
drawn_last w e label = refl

abbrev last_cells : ℕ → ℕ → List Cell
last_cells w e = base w ++ bar ∷ replicate e score

last_long : (w e : ℕ) → length (last_cells w e) ≡ w + 4 + e
last_long w e = omega (arith, length-append (base w) (bar ∷ replicate e score), base_long w, length-replicate e score)

barred : (w e : ℕ) → 0 < e → put_cell (0 + 0) (w + 2 + 1) bar (across 0 (w + 2 + 1 + 1) (w + 4 + 1 + (e - 1) - (w + 2 + 1 + 1)) score (frame (w + 2 - 1) 1)) ≡ last_cells w e ∷ []
barred w e some =
    let from : w + 2 + 1 + 1 ≡ w + 3 + 1 = omega arith in
    let cells : w + 4 + 1 + (e - 1) - (w + 2 + 1 + 1) ≡ e = omega (arith, some) in
    let row = base w ++ blank ∷ replicate e score in
    ap (put_cell (0 + 0) (w + 2 + 1) bar)
    (ap (across 0 (w + 2 + 1 + 1) (w + 4 + 1 + (e - 1) - (w + 2 + 1 + 1)) score) (frame_one w)
    ∙ ap (λ k. across 0 k (w + 4 + 1 + (e - 1) - (w + 2 + 1 + 1)) score (base w ∷ [])) from
    ∙ ap (λ k. across 0 (w + 3 + 1) k score (base w ∷ [])) cells
    ∙ bare_row w 1 e score some)
    ∙ change_one (put (w + 2 + 1) bar) row
    ∙ ap (λ k. put k bar row ∷ []) (let e2 : w + 2 + 1 ≡ length (base w) = omega (arith, base_long w) in e2)
    ∙ ap (λ z. z ∷ []) (put_mid (base w) (replicate e score) bar blank)

last_mark_put : (w e : ℕ) (style : Style) (label : List ℕ) → 0 < e → across 0 (w + 4 + 1 + (e - 1)) 1 (underline true) (put_text 0 (w + 4 + 1 + e + 1) (in_style style label) (last_cells w e ∷ [])) ≡ (last_cells w e ++ underline true ∷ behind_cells style label) ∷ []
last_mark_put w e style [] some = one_more (w + 4 + 1 + (e - 1)) (underline true) (last_cells w e) (omega (arith, some, last_long w e))
last_mark_put w e style (c ∷ label) some =
    let cells = in_style style (c ∷ label) in
    let row = last_cells w e in
    ap (across 0 (w + 4 + 1 + (e - 1)) 1 (underline true))
    (change_one (put_all (w + 4 + 1 + e + 1) cells) row
    ∙ ap (λ k. put_all k cells row ∷ []) (let at : w + 4 + 1 + e + 1 ≡ length row + 2 = omega (arith, last_long w e) in at)
    ∙ ap (λ z. z ∷ []) (all_past 2 (c, style) (in_style style label) row))
    ∙ one_mid (w + 4 + 1 + (e - 1)) (underline true) blank row (blank ∷ cells) (omega (arith, some, last_long w e))

last_grid_is : (w e : ℕ) (label : List ℕ) → 0 < e → last_grid w e label ≡ (last_cells w e ++ underline true ∷ behind_cells (label_style true) label) ∷ []
last_grid_is w e label some =
    ap (λ z. across 0 (w + 4 + 1 + (e - 1)) (w + 4 + 1 + e - (w + 4 + 1 + (e - 1))) (underline true) (put_text 0 (w + 4 + 1 + e + 1) (in_style (label_style true) label) z)) (barred w e some)
    ∙ ap (λ k. across 0 (w + 4 + 1 + (e - 1)) k (underline true) (put_text 0 (w + 4 + 1 + e + 1) (in_style (label_style true) label) (last_cells w e ∷ []))) (let one : w + 4 + 1 + e - (w + 4 + 1 + (e - 1)) ≡ 1 = omega (arith, some) in one)
    ∙ last_mark_put w e (label_style true) label some

last_chars : (w e : ℕ) (style : Style) (label : List ℕ) → row_chars (last_cells w e ++ underline true ∷ behind_cells style label) ≡ last_under w e label
last_chars w e style label =
    chars_both (last_cells w e) (underline true ∷ behind_cells style label)
    ∙ ap (λ z. row_chars (last_cells w e) ++ 94 ∷ z) (behind_chars style label)
    ∙ ap (λ z. z ++ 94 ∷ behind_mark label) (chars_both (base w) (bar ∷ replicate e score) ∙ ap (λ z. z ++ 124 ∷ row_chars (replicate e score)) (base_chars w) ∙ ap (λ z. (blanks (w + 1) ++ codes "| ") ++ 124 ∷ z) (chars_again e score))
    ∙ append_assoc (blanks (w + 1) ++ codes "| ") (124 ∷ replicate e 95) (94 ∷ behind_mark label)
    ∙ ap (λ z. (blanks (w + 1) ++ codes "| ") ++ z) (sym (append_assoc (124 ∷ replicate e 95) (94 ∷ []) (behind_mark label)))

pub block_last : (ui : Bool) (w : ℕ) (file : File) (reach : Reach) (label : Option Text) → reach.first.line < reach.last.line → 0 < reach.last.col_display → block (wide_sheet ui w (wide_spot file reach label)) (in_spot (wide_spot file reach label) reach.last.line) ≡ side ui w (wide_spot file reach label) reach.last.line ∷ last_under w reach.last.col_display (chars (label_bytes label)) ∷ []
block_last ui w file reach label less some =
    let spot = wide_spot file reach label in
    let a = reach.first.line in
    let b = reach.last.line in
    let e = reach.last.col_display in
    let at = in_spot spot b in
    let rest = cond (list_any (nat_eq b) (spot_lines spot)) (side_mark (multi spot) ∷ []) [] in
    ap (λ ms. marked_rows (wide_sheet ui w spot) ms at)
    (marks_are spot b
    ∙ ap (λ z. cond z (first_mark (multi spot) ∷ []) (cond (nat_eq b b) (last_mark (multi spot) ∷ []) rest)) (not_same_back a b less)
    ∙ ap (λ z. cond z (last_mark (multi spot) ∷ []) rest) (same_number b))
    ∙ ap (λ bars. line_row ui w 1 bars 0 at ∷ grid_chars (under_line (wide_columns w) (bars_past (only_wide spot) at) (laid_out (end_at e label ∷ [])))) (bars_to_are spot b true (and_both (nat_lt a b) (nat_le b b) (is_less a b less) (is_most b b (omega arith))))
    ∙ ap (λ bars. side ui w spot b ∷ grid_chars (under_line (wide_columns w) bars (laid_out (end_at e label ∷ [])))) (bars_past_are spot b false (ap (λ z. z && nat_lt b b) (is_less a b less) ∙ not_less b b (omega arith)))
    ∙ ap (λ z. side ui w spot b ∷ grid_chars (under_line (wide_columns w) [] z)) (alone (end_at e label))
    ∙ ap (λ z. side ui w spot b ∷ grid_chars z) (drawn_last w e label ∙ last_grid_is w e (chars (label_bytes label)) some)
    ∙ ap (λ z. side ui w spot b ∷ z ∷ []) (last_chars w e (label_style true) (chars (label_bytes label)))
