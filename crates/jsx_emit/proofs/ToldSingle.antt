-- The lines that are told of a span on one line.
use Rattle.std.proofs.Common.{◌≡◌, ℕ, ◌+◌, ◌-◌, ◌<◌, ◌≤◌, Bool, true, false, ◌&&◌, cond, nat_eq, List, [], ◌∷◌, ◌++◌, Option, Some, None, map, length, refl, ap, sym, ◌∙◌, arith, append_assoc, append-nil}
use Rattle.std.specs.Prelude.{replicate, codes}
use Rattle.std.specs.Str.{IsUtf8, chars, encode_utf8_all}
use Rattle.std.proofs.lemmas.Bool.Decides.{nat_tests}
use Rattle.std.proofs.lemmas.Str.{chars-nil, encodes-append, encodes-chars}
use Rattle.jsx_diag.specs.declared.level.Style.{Style}
use Rattle.jsx_diag.specs.Data.{Text}
use Rattle.jsx_draw.specs.Annotation.{Mark, has_text}
use Rattle.jsx_draw.specs.Grid.{Cell, blank, in_style, put_text}
use Rattle.jsx_emit.specs.Page.{Look, blanks, label_text, line_chars, one_line}
use Rattle.jsx_draw.specs.Spots.{Reach, mark_end, ShownLine, Spot, label_bytes, at_line}
use Rattle.jsx_emit.specs.Written.{grid_chars, row_chars}
use Rattle.jsx_emit.specs.Sheets.{Sheet, block, gutter, line_row, marked_rows, number_in}
use Rattle.jsx_draw.specs.Drawn.{across, frame, label_style, laid_out, mark_row, marks_in, single_mark, under_line, underline}
use Rattle.jsx_emit.proofs.Children.{and_false}
use Rattle.jsx_emit.proofs.Painting.{plain_columns, same_number}
use Rattle.jsx_emit.proofs.Told.{Plain, bare_row, base, chars_again, chars_both, frame_one, labelled_row, line_encoded, plain_again, plain_both, plain_first, plain_mark}

-- ---- labels

-- a label is a text that isn't empty
abbrev pub IsLabel : Option Text → Type 0
IsLabel None = Unit {0}
IsLabel (Some text) = IsUtf8 text × (0 < length text)

-- a blank and a label, if there is one
abbrev pub behind_mark : List ℕ → List ℕ
behind_mark [] = []
behind_mark (c ∷ label) = 32 ∷ c ∷ label

abbrev pub behind_cells : Style → List ℕ → List Cell
behind_cells style [] = []
behind_cells style (c ∷ label) = blank ∷ in_style style (c ∷ label)

chars_styled : (style : Style) (text : List ℕ) → row_chars (in_style style text) ≡ text
chars_styled style [] = refl
chars_styled style (c ∷ text) = ap (λ z. c ∷ z) (chars_styled style text)

pub behind_chars : (style : Style) (label : List ℕ) → row_chars (behind_cells style label) ≡ behind_mark label
behind_chars style [] = refl
behind_chars style (c ∷ label) = ap (λ z. 32 ∷ z) (chars_styled style (c ∷ label))

label_spelled : (text : Text) (cs : List ℕ) → encode_utf8_all cs ≡ text → 0 < length text → encode_utf8_all (behind_mark cs) ≡ 32 ∷ text
label_spelled text [] is some = absurd (let no : ⊥ = omega (arith, some, ap (λ (z : Text). length z) is) in no)
label_spelled text (c ∷ cs) is some = plain_first 32 (c ∷ cs) (omega arith) ∙ ap (λ z. 32 ∷ z) is

pub label_encoded : (label : Option Text) → IsLabel label → encode_utf8_all (behind_mark (chars (label_bytes label))) ≡ label_text label
label_encoded None it = ap (λ z. encode_utf8_all (behind_mark z)) chars-nil
label_encoded (Some text) it = label_spelled text (chars text) (encodes-chars text it.0) it.1

-- ---- characters and bytes of rows

pub base_chars : (w : ℕ) → row_chars (base w) ≡ blanks (w + 1) ++ codes "| "
base_chars w = chars_both (replicate (w + 1) blank) _ ∙ ap (λ z. z ++ codes "| ") (chars_again (w + 1) blank)

plain_base : (w : ℕ) → Plain (blanks (w + 1) ++ codes "| ")
plain_base w = plain_both (blanks (w + 1)) (codes "| ") (plain_again (w + 1) 32 (omega arith)) plain_mark

pub plain_then : (xs ys : List ℕ) → Plain xs → encode_utf8_all (xs ++ ys) ≡ xs ++ encode_utf8_all ys
plain_then xs ys p = encodes-append xs ys ∙ ap (λ z. z ++ encode_utf8_all ys) p

-- a row under a line
pub row_encoded : (w : ℕ) (mid tail : List ℕ) → Plain mid → encode_utf8_all ((blanks (w + 1) ++ codes "| ") ++ (mid ++ tail)) ≡ blanks (w + 1) ++ (codes "| " ++ (mid ++ encode_utf8_all tail))
row_encoded w mid tail p =
    plain_then (blanks (w + 1) ++ codes "| ") (mid ++ tail) (plain_base w)
    ∙ append_assoc (blanks (w + 1)) (codes "| ") (encode_utf8_all (mid ++ tail))
    ∙ ap (λ z. blanks (w + 1) ++ (codes "| " ++ z)) (plain_then mid tail p)

-- ---- what is drawn under the line

-- what is drawn by where there is one span on one line
abbrev pub single_sheet : Bool → ℕ → Spot → Sheet
single_sheet ui w spot = record { ui_testing = ui; width = w; depth = 0; singles = spot ∷ []; wides = [] }

abbrev pub at_spot : Spot → ShownLine
at_spot spot = record { file = spot.file; line = spot.reach.first.line }

marks_are : (spot : Spot) → marks_in (spot ∷ []) [] (at_spot spot) ≡ single_mark spot ∷ []
marks_are spot =
    append-nil (map single_mark (at_line (at_spot spot) (spot ∷ [])))
    ∙ ap (λ b. map single_mark (cond (b && nat_eq spot.reach.first.line spot.reach.first.line) (spot ∷ []) [])) (same_number spot.file.start)
    ∙ ap (λ b. map single_mark (cond b (spot ∷ []) [])) (same_number spot.reach.first.line)

row_zero : (mark : Mark) → mark_row 0 mark [] ≡ 0
row_zero mark = ap (λ b. cond b 1 0) (and_false (has_text mark.label))

pub alone : (mark : Mark) → laid_out (mark ∷ []) ≡ record { mark = mark; row = 0 } ∷ []
alone mark = ap (λ n. record { mark = mark; row = n } ∷ []) (row_zero mark)

-- the label, and then the underline over it
drawn_single : (w : ℕ) (spot : Spot) → under_line (plain_columns w) [] (record { mark = single_mark spot; row = 0 } ∷ []) ≡ across 0 (w + 3 + (single_mark spot).start_col) (w + 3 + (single_mark spot).end_col - (w + 3 + (single_mark spot).start_col)) (underline spot.is_primary) (put_text 0 (w + 3 + (single_mark spot).end_col + 1) (in_style (label_style spot.is_primary) (chars (label_bytes spot.label))) (frame (w + 2 - 1) 1))
drawn_single w spot = refl

marked_row : (w s n : ℕ) (cell : Cell) (style : Style) (label : List ℕ) → 0 < n → across 0 (w + 3 + s) n cell (put_text 0 (w + 3 + (s + n + 1)) (in_style style label) (base w ∷ [])) ≡ (base w ++ (replicate s blank ++ (replicate n cell ++ behind_cells style label))) ∷ []
marked_row w s n cell style [] some = bare_row w s n cell some ∙ ap (λ z. (base w ++ (replicate s blank ++ z)) ∷ []) (sym (append-nil (replicate n cell)))
marked_row w s n cell style (c ∷ label) some = labelled_row w s n cell (c, style) (in_style style label)

-- the row as characters
single_chars : (w s n : ℕ) (style : Style) (cell : Cell) (label : List ℕ) → row_chars (base w ++ (replicate s blank ++ (replicate n cell ++ behind_cells style label))) ≡ (blanks (w + 1) ++ codes "| ") ++ ((blanks s ++ replicate n cell.0) ++ behind_mark label)
single_chars w s n style cell label =
    chars_both (base w) (replicate s blank ++ (replicate n cell ++ behind_cells style label))
    ∙ ap (λ z. z ++ row_chars (replicate s blank ++ (replicate n cell ++ behind_cells style label))) (base_chars w)
    ∙ ap (λ z. (blanks (w + 1) ++ codes "| ") ++ z) (
    chars_both (replicate s blank) (replicate n cell ++ behind_cells style label)
    ∙ ap (λ z. z ++ row_chars (replicate n cell ++ behind_cells style label)) (chars_again s blank)
    ∙ ap (λ z. blanks s ++ z) (chars_both (replicate n cell) (behind_cells style label) ∙ ap (λ z. z ++ row_chars (behind_cells style label)) (chars_again n cell) ∙ ap (λ z. replicate n cell.0 ++ z) (behind_chars style label))
    ∙ sym (append_assoc (blanks s) (replicate n cell.0) (behind_mark label)))

single_encoded : (w s n : ℕ) (label : Option Text) → IsLabel label → encode_utf8_all ((blanks (w + 1) ++ codes "| ") ++ ((blanks s ++ replicate n 94) ++ behind_mark (chars (label_bytes label)))) ≡ blanks (w + 1) ++ (codes "| " ++ (blanks s ++ (replicate n 94 ++ label_text label)))
single_encoded w s n label it =
    row_encoded w (blanks s ++ replicate n 94) (behind_mark (chars (label_bytes label))) (plain_both (blanks s) (replicate n 94) (plain_again s 32 (omega arith)) (plain_again n 94 (omega arith)))
    ∙ ap (λ z. blanks (w + 1) ++ (codes "| " ++ ((blanks s ++ replicate n 94) ++ z))) (label_encoded label it)
    ∙ ap (λ z. blanks (w + 1) ++ (codes "| " ++ z)) (append_assoc (blanks s) (replicate n 94) (label_text label))

-- ---- the line and its marks

-- the only span, which is primary
abbrev pub sole_spot : Reach → Option Text → Spot
sole_spot reach label = record { file = reach.first.file; reach = reach; is_primary = true; label = label }

end_after : (s e : ℕ) (b : Bool) → s ≤ e → nat_eq s e ≡ b → s < cond b (s + 1) e
end_after s e true le same = omega arith
end_after s e false le other = grind (arith, nat_tests)

under_single : (w s e : ℕ) (spot : Spot) → s ≡ (single_mark spot).start_col → e ≡ (single_mark spot).end_col → s < e → grid_chars (under_line (plain_columns w) [] (laid_out (single_mark spot ∷ []))) ≡ row_chars (base w ++ (replicate s blank ++ (replicate (e - s) (underline spot.is_primary) ++ behind_cells (label_style spot.is_primary) (chars (label_bytes spot.label))))) ∷ []
under_single w s e spot begins ends less =
    let label = in_style (label_style spot.is_primary) (chars (label_bytes spot.label)) in
    let first = (single_mark spot).start_col in
    let last = (single_mark spot).end_col in
    let begun : w + 3 + first ≡ w + 3 + s = ap (λ k. w + 3 + k) (sym begins) in
    let long : w + 3 + last - (w + 3 + first) ≡ e - s = omega (arith, begins, ends) in
    let behind : w + 3 + last + 1 ≡ w + 3 + (s + (e - s) + 1) = omega (arith, begins, ends, less) in
    ap (λ z. grid_chars (under_line (plain_columns w) [] z)) (alone (single_mark spot))
    ∙ ap grid_chars (
    drawn_single w spot
    ∙ ap (λ z. across 0 (w + 3 + first) (w + 3 + last - (w + 3 + first)) (underline spot.is_primary) (put_text 0 (w + 3 + last + 1) label z)) (frame_one w)
    ∙ ap (λ k. across 0 k (w + 3 + last - (w + 3 + first)) (underline spot.is_primary) (put_text 0 (w + 3 + last + 1) label (base w ∷ []))) begun
    ∙ ap (λ k. across 0 (w + 3 + s) k (underline spot.is_primary) (put_text 0 (w + 3 + last + 1) label (base w ∷ []))) long
    ∙ ap (λ k. across 0 (w + 3 + s) (e - s) (underline spot.is_primary) (put_text 0 k label (base w ∷ []))) behind
    ∙ marked_row w s (e - s) (underline spot.is_primary) (label_style spot.is_primary) (chars (label_bytes spot.label)) (omega (arith, less)))

one_gutter : (cs : List ℕ) → gutter 0 [] 0 cs ++ cs ≡ 32 ∷ cs
one_gutter [] = refl
one_gutter (c ∷ cs) = refl

plain_line : (ui : Bool) (w : ℕ) (at : ShownLine) → encode_utf8_all (line_row ui w 0 [] 0 at) ≡ number_in ui w at.line ++ (codes " | " ++ encode_utf8_all (line_chars at.file at.line))
plain_line ui w at =
    ap (λ z. encode_utf8_all (number_in ui w at.line ++ (codes " |" ++ z))) (one_gutter (line_chars at.file at.line))
    ∙ line_encoded ui w at.line (32 ∷ []) (line_chars at.file at.line) (plain_again 1 32 (omega arith))

pub single_rows : (look : Look) (w : ℕ) (reach : Reach) (label : Option Text) → IsLabel label → reach.first.col_display ≤ reach.last.col_display → map encode_utf8_all (block (single_sheet look.ui_testing w (sole_spot reach label)) (at_spot (sole_spot reach label))) ≡ one_line look w reach label
single_rows look w reach label it le =
    let spot = sole_spot reach label in
    let at = at_spot spot in
    let s = reach.first.col_display in
    let e = mark_end reach in
    ap (λ ms. map encode_utf8_all (marked_rows (single_sheet look.ui_testing w spot) ms at)) (marks_are spot)
    ∙ ap (λ z. encode_utf8_all (line_row look.ui_testing w 0 [] 0 at) ∷ map encode_utf8_all z)
    (under_single w s e spot refl refl (end_after s reach.last.col_display (nat_eq s reach.last.col_display) le refl) ∙ ap (λ z. z ∷ []) (single_chars w s (e - s) (label_style true) (underline true) (chars (label_bytes label))))
    ∙ ap (λ z. encode_utf8_all (line_row look.ui_testing w 0 [] 0 at) ∷ z ∷ []) (single_encoded w s (e - s) label it)
    ∙ ap (λ z. z ∷ (blanks (w + 1) ++ (codes "| " ++ (blanks s ++ (replicate (e - s) 94 ++ label_text label)))) ∷ []) (plain_line look.ui_testing w at)
