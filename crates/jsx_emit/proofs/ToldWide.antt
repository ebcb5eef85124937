-- The lines that are told of a span over several lines.
use Rattle.std.proofs.Common.{◌≡◌, ℕ, zero, suc, ◌+◌, ◌-◌, ◌<◌, Bool, true, false, cond, nat_lt, List, [], ◌∷◌, ◌++◌, Option, map, take, refl, ap, sym, ◌∙◌, arith, append_assoc, append-nil}
use Rattle.std.specs.Prelude.{replicate, codes}
use Rattle.std.specs.Char.{is_whitespace}
use Rattle.std.specs.List.{list_all, range_with_len}
use Rattle.std.specs.Str.{chars, encode_utf8_all}
use Rattle.std.proofs.lemmas.List.{map-append}
use Rattle.jsx_diag.specs.Data.{Text}
use Rattle.jsx_emit.specs.Page.{Look, begin_lines, behind, blanks, gap_line, label_text, later_line, later_lines, line_chars, number, several_lines}
use Rattle.jsx_draw.specs.Spots.{Reach, Spot, label_bytes, lines_put, spot_lines}
use Rattle.jsx_emit.specs.Sheets.{gutter, line_blocks, number_in}
use Rattle.jsx_emit.proofs.Told.{Plain, line_encoded, plain_again, plain_both, plain_first}
use Rattle.jsx_emit.proofs.ToldSingle.{IsLabel, behind_mark, label_encoded, row_encoded}
use Rattle.jsx_emit.proofs.WideBlocks.{inner, last_row, wide_blocks}
use Rattle.jsx_emit.proofs.WideRows.{begins, dots, first_rows, first_under, last_under, side, wide_sheet, wide_spot}

-- ---- lines of the file

plain_one : (c : ℕ) → c < 128 → Plain (c ∷ [])
plain_one c small = plain_first c [] small

plain_two : (c d : ℕ) → c < 128 → d < 128 → Plain (c ∷ d ∷ [])
plain_two c d small also = plain_first c (d ∷ []) small ∙ ap (λ z. c ∷ z) (plain_one d also)

behind_encoded : (before : Text) (cs : List ℕ) → before ++ encode_utf8_all (behind_mark cs) ≡ behind before cs
behind_encoded before [] = append-nil before
behind_encoded before (c ∷ cs) = ap (λ z. before ++ z) (plain_first 32 (c ∷ cs) (omega arith))

-- a line behind a bar or a slash
barred : (ui : Bool) (w line c : ℕ) (cs mid : List ℕ) → c < 128 → mid ≡ 32 ∷ c ∷ behind_mark cs → encode_utf8_all (number_in ui w line ++ (codes " |" ++ mid)) ≡ behind (number_in ui w line ++ (codes " | " ++ c ∷ [])) cs
barred ui w line c cs mid small is =
    ap (λ z. encode_utf8_all (number_in ui w line ++ (codes " |" ++ z))) is
    ∙ line_encoded ui w line (32 ∷ c ∷ []) (behind_mark cs) (plain_two 32 c (omega arith) small)
    ∙ sym (append_assoc (number_in ui w line) (codes " | " ++ c ∷ []) (encode_utf8_all (behind_mark cs)))
    ∙ behind_encoded (number_in ui w line ++ (codes " | " ++ c ∷ [])) cs

side_gutter : (cs : List ℕ) → gutter 1 (1 ∷ []) 0 cs ++ cs ≡ 32 ∷ 124 ∷ behind_mark cs
side_gutter [] = refl
side_gutter (c ∷ cs) = refl

slash_gutter : (cs : List ℕ) → gutter 1 [] 1 cs ++ cs ≡ 32 ∷ 47 ∷ behind_mark cs
slash_gutter [] = refl
slash_gutter (c ∷ cs) = refl

side_encoded : (look : Look) (w : ℕ) (spot : Spot) (line : ℕ) → encode_utf8_all (side look.ui_testing w spot line) ≡ later_line look w spot.file line
side_encoded look w spot line = barred look.ui_testing w line 124 (line_chars spot.file line) (gutter 1 (1 ∷ []) 0 (line_chars spot.file line) ++ line_chars spot.file line) (omega arith) (side_gutter (line_chars spot.file line))

sides_encoded : (look : Look) (w : ℕ) (spot : Spot) (xs : List ℕ) → map encode_utf8_all (map (side look.ui_testing w spot) xs) ≡ map (later_line look w spot.file) xs
sides_encoded look w spot [] = refl
sides_encoded look w spot (line ∷ xs) = ap (λ z. z ∷ map encode_utf8_all (map (side look.ui_testing w spot) xs)) (side_encoded look w spot line) ∙ ap (λ z. later_line look w spot.file line ∷ z) (sides_encoded look w spot xs)

-- ---- the first line

none_begins : (n : ℕ) → list_all is_whitespace (take n []) ≡ true
none_begins zero = refl
none_begins (suc n) = refl

-- an empty line has nothing before the place
open_line : (ui : Bool) (w line n : ℕ) (cs : List ℕ) → list_all is_whitespace (take n cs) ≡ false → encode_utf8_all (number_in ui w line ++ (codes " |" ++ (gutter 1 [] 0 cs ++ cs))) ≡ number_in ui w line ++ (codes " |   " ++ encode_utf8_all cs)
open_line ui w line n [] not = absurd (let no : true ≡ false = sym (none_begins n) ∙ not in let e : ⊥ = cc in e)
open_line ui w line n (c ∷ cs) not = line_encoded ui w line (32 ∷ 32 ∷ 32 ∷ []) (c ∷ cs) (plain_again 3 32 (omega arith))

under_encoded : (w s : ℕ) → encode_utf8_all (first_under w s) ≡ blanks (w + 1) ++ (codes "|  " ++ (replicate (s + 1) 95 ++ codes "^"))
under_encoded w s =
    let mid = 32 ∷ (replicate (s + 1) 95 ++ 94 ∷ []) in
    ap (λ z. encode_utf8_all ((blanks (w + 1) ++ codes "| ") ++ z)) (sym (append-nil mid))
    ∙ row_encoded w mid [] (plain_both (32 ∷ replicate (s + 1) 95) (94 ∷ []) (plain_both (32 ∷ []) (replicate (s + 1) 95) (plain_one 32 (omega arith)) (plain_again (s + 1) 95 (omega arith))) (plain_one 94 (omega arith)))
    ∙ ap (λ z. blanks (w + 1) ++ (codes "| " ++ z)) (append-nil mid)

first_encoded : (look : Look) (w : ℕ) (reach : Reach) (label : Option Text) (t : Bool) → begins (wide_spot reach.first.file reach label) ≡ t → map encode_utf8_all (first_rows look.ui_testing w (wide_spot reach.first.file reach label) t) ≡ cond t (behind (number look w reach.first.line ++ codes " | /") (line_chars reach.first.file reach.first.line) ∷ []) ((number look w reach.first.line ++ (codes " |   " ++ encode_utf8_all (line_chars reach.first.file reach.first.line))) ∷ (blanks (w + 1) ++ (codes "|  " ++ (replicate (reach.first.col_display + 1) 95 ++ codes "^"))) ∷ [])
first_encoded look w reach label true is =
    let text = line_chars reach.first.file reach.first.line in
    ap (λ z. z ∷ []) (barred look.ui_testing w reach.first.line 47 text (gutter 1 [] 1 text ++ text) (omega arith) (slash_gutter text))
first_encoded look w reach label false is =
    let text = line_chars reach.first.file reach.first.line in
    ap (λ z. z ∷ encode_utf8_all (first_under w reach.first.col_display) ∷ []) (open_line look.ui_testing w reach.first.line reach.first.col_display text is)
    ∙ ap (λ z. (number look w reach.first.line ++ (codes " |   " ++ encode_utf8_all text)) ∷ z ∷ []) (under_encoded w reach.first.col_display)

-- ---- the lines behind it

plain_dots : Plain (codes "...")
plain_dots = plain_again 3 46 (omega arith)

dots_encoded : (w : ℕ) → encode_utf8_all (dots w) ≡ gap_line w
dots_encoded w =
    plain_both (codes "..." ++ blanks w) (124 ∷ []) (plain_both (codes "...") (blanks w) plain_dots (plain_again w 32 (omega arith))) (plain_one 124 (omega arith))
    ∙ ap (λ n. (codes "..." ++ blanks n) ++ 124 ∷ []) (let e : w ≡ w + 3 - 3 = omega arith in e)

inner_encoded : (look : Look) (w : ℕ) (reach : Reach) (label : Option Text) (far : Bool) → map encode_utf8_all (inner look.ui_testing w (wide_spot reach.first.file reach label) far) ≡ cond far (map (later_line look w reach.first.file) (range_with_len (reach.first.line + 1) 3) ++ (gap_line w ∷ map (later_line look w reach.first.file) (range_with_len (reach.last.line - 1) 2))) (map (later_line look w reach.first.file) (range_with_len (reach.first.line + 1) (reach.last.line - reach.first.line)))
inner_encoded look w reach label false = sides_encoded look w (wide_spot reach.first.file reach label) (range_with_len (reach.first.line + 1) (reach.last.line - reach.first.line))
inner_encoded look w reach label true =
    let spot = wide_spot reach.first.file reach label in
    let three = range_with_len (reach.first.line + 1) 3 in
    let two = range_with_len (reach.last.line - 1) 2 in
    map-append encode_utf8_all (map (side look.ui_testing w spot) three) (dots w ∷ map (side look.ui_testing w spot) two)
    ∙ ap (λ z. z ++ map encode_utf8_all (dots w ∷ map (side look.ui_testing w spot) two)) (sides_encoded look w spot three)
    ∙ ap (λ z. map (later_line look w reach.first.file) three ++ z ∷ map encode_utf8_all (map (side look.ui_testing w spot) two)) (dots_encoded w)
    ∙ ap (λ z. map (later_line look w reach.first.file) three ++ gap_line w ∷ z) (sides_encoded look w spot two)

last_encoded : (w e : ℕ) (label : Option Text) → IsLabel label → encode_utf8_all (last_under w e (chars (label_bytes label))) ≡ blanks (w + 1) ++ (codes "| |" ++ (replicate e 95 ++ (codes "^" ++ label_text label)))
last_encoded w e label it =
    let mid = 124 ∷ (replicate e 95 ++ 94 ∷ []) in
    row_encoded w mid (behind_mark (chars (label_bytes label))) (plain_both (124 ∷ replicate e 95) (94 ∷ []) (plain_both (124 ∷ []) (replicate e 95) (plain_one 124 (omega arith)) (plain_again e 95 (omega arith))) (plain_one 94 (omega arith)))
    ∙ ap (λ z. blanks (w + 1) ++ (codes "| " ++ (mid ++ z))) (label_encoded label it)
    ∙ ap (λ z. blanks (w + 1) ++ (codes "| |" ++ z)) (append_assoc (replicate e 95) (94 ∷ []) (label_text label))

-- ---- all lines

pub wide_rows : (look : Look) (w : ℕ) (reach : Reach) (label : Option Text) → IsLabel label → 0 < reach.last.col_display → reach.first.line < reach.last.line → map encode_utf8_all (line_blocks (wide_sheet look.ui_testing w (wide_spot reach.first.file reach label)) reach.first.file (lines_put (spot_lines (wide_spot reach.first.file reach label)) [])) ≡ several_lines look w reach label
wide_rows look w reach label it some less =
    let spot = wide_spot reach.first.file reach label in
    let far = nat_lt (reach.first.line + 6) reach.last.line in
    let first = first_rows look.ui_testing w spot (begins spot) in
    let behind_first = inner look.ui_testing w spot far in
    let last = last_row w reach label in
    ap (map encode_utf8_all) (wide_blocks look.ui_testing w reach.first.file reach label some less)
    ∙ map-append encode_utf8_all first (behind_first ++ last ∷ [])
    ∙ ap (λ z. z ++ map encode_utf8_all (behind_first ++ last ∷ [])) (first_encoded look w reach label (begins spot) refl)
    ∙ ap (λ z. begin_lines look w reach ++ z)
    (map-append encode_utf8_all behind_first (last ∷ [])
    ∙ ap (λ z. z ++ encode_utf8_all last ∷ []) (inner_encoded look w reach label far)
    ∙ ap (λ z. later_lines look w reach.first.file reach.first.line reach.last.line ++ z ∷ []) (last_encoded w reach.last.col_display label it))
