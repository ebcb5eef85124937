-- Rows that are added to a page.
use Rattle.std.proofs.Common.{◌≡◌, ℕ, zero, suc, ◌+◌, ◌-◌, ◌==◌, ◌&&◌, Bool, true, false, cond, take, nat_eq, List, [], ◌∷◌, ◌++◌, length, max, refl, ap, sym, ◌∙◌, subst, arith, append_assoc}
use Rattle.std.specs.Prelude.{Option, None, Result, Ok, Err, OnOk, codes, decimal, is_ok, if◌then◌else◌}
use Rattle.std.specs.Option.{unwrap_or}
use Rattle.std.specs.Char.{is_whitespace}
use Rattle.std.specs.List.{list_all, list_any}
use Rattle.std.specs.Str.{IsUtf8, chars, encode_utf8_all, is_utf8}
use Rattle.std.proofs.lemmas.Str.{IsUtf8-append, IsUtf8-nil, IsUtf8-from_is_utf8, chars-nil, encodes-append, encodes-chars}
use Rattle.jsx_diag.specs.declared.level.Style.TheVariants as style
use Rattle.jsx_base.specs.declared.file_name.FileName.{FileName}
use Rattle.jsx_base.specs.FileName.{name_of, shown_name}
use Rattle.jsx_base.specs.SpanPlaces.{shown}
use Rattle.jsx_diag.specs.Data.{Text}
use Rattle.jsx_emit.proofs.Places.{name_shown}
use Rattle.jsx_draw.specs.Grid.{Grid, in_style, put_text}
use Rattle.jsx_emit.specs.Page.{blanks, spaced, rows_text}
use Rattle.jsx_draw.specs.Spots.{greatest}
use Rattle.jsx_emit.specs.Written.{bar_row, grid_chars}
use Rattle.jsx_emit.specs.Sheets.{bar_cell, bar_cells, gutter, number_in}
use Rattle.jsx_draw.specs.Drawn.{draw_open, drawn}
use Rattle.jsx_emit.proofs.Pages.{spaced-append, spaced-blanks}
use Rattle.jsx_emit.proofs.Rows.{indented_row, rows_text-append, spaced_encoded, spaced_text}
use Rattle.jsx_emit.proofs.Told.{Plain, plain_bar, plain_both, plain_first, plain_number, repeat_next}

-- ---- what stands before the text of a line

pub gutter_empty_if : {X : Type 0} (depth slash n : ℕ) (bars cs : List ℕ) (old a b : Text) (r : Result (Unit {0}) X) → cs ≡ [] → n ≡ max slash (greatest bars) → a ≡ old ++ 32 ∷ [] → OnOk r (b ≡ a ++ bar_cells bars slash n) → OnOk r (b ≡ old ++ gutter depth bars slash cs)
gutter_empty_if depth slash n bars cs old a b (Err e) none most e1 e2 = tt
gutter_empty_if depth slash n bars cs old a b (Ok u) none most e1 e2 =
    e2
    ∙ ap (λ k. a ++ bar_cells bars slash k) most
    ∙ ap (λ z. z ++ bar_cells bars slash (max slash (greatest bars))) e1
    ∙ append_assoc old (32 ∷ []) (bar_cells bars slash (max slash (greatest bars)))
    ∙ ap (λ z. old ++ gutter depth bars slash z) (sym none)

pub gutter_text_if : {X : Type 0} (depth slash : ℕ) (bars cs : List ℕ) (more old a b d : Text) (r : Result (Unit {0}) X) → (cs ≡ [] → ⊥) → more ≡ cond (nat_eq depth 0) [] (32 ∷ []) → a ≡ old ++ 32 ∷ [] → b ≡ a ++ bar_cells bars slash depth → d ≡ (if is_ok r then b ++ more else b) → OnOk r (d ≡ old ++ gutter depth bars slash cs)
gutter_text_if depth slash bars cs more old a b d (Err e) some is e1 e2 e3 = tt
gutter_text_if depth slash bars [] more old a b d (Ok u) some is e1 e2 e3 = absurd (some refl)
gutter_text_if depth slash bars (c ∷ cs) more old a b d (Ok u) some is e1 e2 e3 =
    e3
    ∙ ap (λ z. b ++ z) is
    ∙ ap (λ z. z ++ cond (nat_eq depth 0) [] (32 ∷ [])) (e2 ∙ ap (λ z. z ++ bar_cells bars slash depth) e1 ∙ append_assoc old (32 ∷ []) (bar_cells bars slash depth))
    ∙ append_assoc old (32 ∷ bar_cells bars slash depth) (cond (nat_eq depth 0) [] (32 ∷ []))

-- a text has characters
pub some_chars : (bs : Text) → IsUtf8 bs → (length bs == 0) ≡ false → chars bs ≡ [] → ⊥
some_chars bs utf8 some none =
    let is : [] ≡ bs = ap encode_utf8_all (sym none) ∙ encodes-chars bs utf8 in
    let zero_long : length bs ≡ 0 = ap (λ (z : Text). length z) (sym is) in
    grind (arith, zero_long, some)

pub no_chars : (bs : Text) → (length bs == 0) ≡ true → chars bs ≡ []
no_chars [] none = chars-nil
no_chars (b ∷ bs) none = absurd (let no : ⊥ = grind (arith, none) in no)

plain_cell : (same other : Bool) → Plain (cond same 47 (cond other 124 32) ∷ [])
plain_cell true other = plain_first 47 [] (omega arith)
plain_cell false true = plain_first 124 [] (omega arith)
plain_cell false false = plain_first 32 [] (omega arith)

plain_cells : (bars : List ℕ) (slash n : ℕ) → Plain (bar_cells bars slash n)
plain_cells bars slash zero = refl
plain_cells bars slash (suc n) = plain_both (bar_cells bars slash n) (bar_cell bars slash (n + 1) ∷ []) (plain_cells bars slash n) (plain_cell (nat_eq (n + 1) slash) (list_any (nat_eq (n + 1)) bars))

plain_blank : (b : Bool) → Plain (cond b [] (32 ∷ []))
plain_blank true = refl
plain_blank false = plain_first 32 [] (omega arith)

plain_gutter : (depth slash : ℕ) (bars cs : List ℕ) → Plain (gutter depth bars slash cs)
plain_gutter depth slash bars [] = plain_both (32 ∷ []) (bar_cells bars slash (max slash (greatest bars))) (plain_first 32 [] (omega arith)) (plain_cells bars slash (max slash (greatest bars)))
plain_gutter depth slash bars (c ∷ cs) = plain_both (32 ∷ bar_cells bars slash depth) (cond (nat_eq depth 0) [] (32 ∷ [])) (plain_both (32 ∷ []) (bar_cells bars slash depth) (plain_first 32 [] (omega arith)) (plain_cells bars slash depth)) (plain_blank (nat_eq depth 0))

-- a row as its bytes or its characters
same_row : (front cs : List ℕ) → IsUtf8 front → Plain front → encode_utf8_all (spaced (chars front ++ cs)) ≡ encode_utf8_all (spaced (front ++ cs))
same_row front cs utf8 plain =
    sym (spaced_encoded (chars front ++ cs))
    ∙ ap spaced (encodes-append (chars front) cs ∙ ap (λ z. z ++ encode_utf8_all cs) (encodes-chars front utf8 ∙ sym plain) ∙ sym (encodes-append front cs))
    ∙ spaced_encoded (front ++ cs)

pub line_row_if : {X : Type 0} (ui : Bool) (w depth slash line : ℕ) (bars cs source : List ℕ) (front0 front old new : Text) (r : Result (Unit {0}) X) → source ≡ cs → IsUtf8 front → front0 ≡ number_in ui w line ++ codes " |" → front ≡ front0 ++ gutter depth bars slash source → OnOk r (new ≡ old ++ rows_text ((chars front ++ source) ∷ [])) → OnOk r (new ≡ old ++ rows_text ((number_in ui w line ++ (codes " |" ++ (gutter depth bars slash cs ++ cs))) ∷ []))
line_row_if ui w depth slash line bars cs source front0 front old new (Err e) same utf8 e0 e1 e2 = tt
line_row_if ui w depth slash line bars cs source front0 front old new (Ok u) same utf8 e0 e1 e2 =
    let all = number_in ui w line ++ (codes " |" ++ gutter depth bars slash cs) in
    let is : front ≡ all = e1 ∙ ap (λ z. front0 ++ gutter depth bars slash z) same ∙ ap (λ z. z ++ gutter depth bars slash cs) e0 ∙ append_assoc (number_in ui w line) (codes " |") (gutter depth bars slash cs) in
    let plain : Plain all = plain_both (number_in ui w line) (codes " |" ++ gutter depth bars slash cs) (plain_number ui w line) (plain_both (codes " |") (gutter depth bars slash cs) plain_bar (plain_gutter depth slash bars cs)) in
    e2
    ∙ ap (λ z. old ++ ((encode_utf8_all (spaced (chars front ++ z)) ++ 10 ∷ []) ++ [])) same
    ∙ ap (λ z. old ++ ((encode_utf8_all (spaced (chars z ++ cs)) ++ 10 ∷ []) ++ [])) is
    ∙ ap (λ z. old ++ ((z ++ 10 ∷ []) ++ [])) (same_row all cs (subst IsUtf8 is utf8) plain)
    ∙ ap (λ z. old ++ rows_text (z ∷ [])) (append_assoc (number_in ui w line) (codes " |" ++ gutter depth bars slash cs) cs ∙ ap (λ z. number_in ui w line ++ z) (append_assoc (codes " |") (gutter depth bars slash cs) cs))

-- ---- white space

pub blank_next : (left c : ℕ) (rest cs : List ℕ) (t : Bool) → (left ≡ 0 → ⊥) → is_whitespace c ≡ true → rest ≡ c ∷ cs → list_all is_whitespace (take left rest) ≡ t → list_all is_whitespace (take (left - 1) cs) ≡ t
blank_next zero c rest cs t some blank is all = absurd (some refl)
blank_next (suc n) c rest cs t some blank is all =
    ap (λ k. list_all is_whitespace (take k cs)) (let e : suc n - 1 ≡ n = omega arith in e)
    ∙ sym (ap (λ z. list_all is_whitespace (take (suc n) z)) is ∙ ap (λ b. b && list_all is_whitespace (take n cs)) blank)
    ∙ all

-- ---- rows without a line

dots_spelled : chars (codes "...") ≡ codes "..."
unfolding chars
dots_spelled = refl

pub dots_if : {X : Type 0} (bars n : ℕ) (depths : List ℕ) (g0 g1 g2 : Grid) (old new : Text) (r : Result (Unit {0}) X) → n ≡ bars → g0 ≡ [] → g1 ≡ put_text 0 0 (in_style style.LineNumber (chars (codes "..."))) g0 → g2 ≡ drawn (draw_open n 1) depths g1 → OnOk r (new ≡ old ++ rows_text (grid_chars g2)) → OnOk r (new ≡ old ++ rows_text (grid_chars (drawn (draw_open bars 1) depths (put_text 0 0 (in_style style.LineNumber (codes "...")) []))))
dots_if bars n depths g0 g1 g2 old new (Err e) same e0 e1 e2 is = tt
dots_if bars n depths g0 g1 g2 old new (Ok u) same e0 e1 e2 is =
    is
    ∙ ap (λ z. old ++ rows_text (grid_chars z)) (
    e2
    ∙ ap (drawn (draw_open n 1) depths) (e1 ∙ ap (put_text 0 0 (in_style style.LineNumber (chars (codes "...")))) e0 ∙ ap (λ z. put_text 0 0 (in_style style.LineNumber z) []) dots_spelled)
    ∙ ap (λ k. drawn (draw_open k 1) depths (put_text 0 0 (in_style style.LineNumber (codes "...")) [])) same)

-- a row behind blanks
blank_row : (n : ℕ) (row want : List ℕ) (old a b : Text) → blanks n ++ row ≡ want → a ≡ old ++ blanks n → b ≡ a ++ rows_text (row ∷ []) → b ≡ old ++ rows_text (want ∷ [])
blank_row n row want old a b is e1 e2 = indented_row n row old a b e1 e2 ∙ ap (λ z. old ++ rows_text (z ∷ [])) is

blanks_more : (n : ℕ) (xs : List ℕ) → blanks n ++ 32 ∷ xs ≡ blanks (n + 1) ++ xs
blanks_more n xs = sym (repeat_next n 32 xs) ∙ ap (λ k. blanks k ++ xs) (let e : suc n ≡ n + 1 = omega arith in e)

bar_spelled : chars (codes " |") ≡ codes " |"
unfolding chars
bar_spelled = refl

open_spelled : chars (codes " | ") ≡ codes " | "
unfolding chars
open_spelled = refl

bar_is : (w : ℕ) → blanks w ++ (chars (codes " |") ++ chars []) ≡ bar_row w
bar_is w = ap (λ z. blanks w ++ (z ++ chars [])) bar_spelled ∙ ap (λ z. blanks w ++ (codes " |" ++ z)) chars-nil ∙ blanks_more w (codes "|")

pub bar_row_if : {X : Type 0} (w : ℕ) (old a b : Text) (r : Result (Unit {0}) X) → a ≡ old ++ blanks w → OnOk r (b ≡ a ++ rows_text ((chars (codes " |") ++ chars []) ∷ [])) → OnOk r (b ≡ old ++ rows_text (bar_row w ∷ []))
bar_row_if w old a b (Err e) e1 e2 = tt
bar_row_if w old a b (Ok u) e1 e2 = blank_row w (chars (codes " |") ++ chars []) (bar_row w) old a b (bar_is w) e1 e2

pub open_row : (w : ℕ) (old a b : Text) → a ≡ old ++ blanks w → b ≡ a ++ rows_text ((chars (codes " | ") ++ chars []) ∷ []) → b ≡ old ++ rows_text ((blanks (w + 1) ++ codes "| ") ∷ [])
open_row w old a b e1 e2 =
    blank_row w (chars (codes " | ") ++ chars []) (blanks (w + 1) ++ codes "| ") old a b
    (ap (λ z. blanks w ++ (z ++ chars [])) open_spelled ∙ ap (λ z. blanks w ++ (codes " | " ++ z)) chars-nil ∙ blanks_more w (codes "| ")) e1 e2

-- a row that is a text
pub text_row_if : {X : Type 0} (line s old new : Text) (r : Result (Unit {0}) X) → s ≡ line → OnOk r (new ≡ old ++ rows_text ((chars [] ++ chars s) ∷ [])) → OnOk r (new ≡ old ++ rows_text (chars line ∷ []))
text_row_if line s old new (Err e) same is = tt
text_row_if line s old new (Ok u) same is = is ∙ ap (λ z. old ++ rows_text ((z ++ chars s) ∷ [])) chars-nil ∙ ap (λ z. old ++ rows_text (chars z ∷ [])) same

blank_text : is_utf8 (codes " ") ≡ true
unfolding is_utf8 chars lib.Utf8.encode
blank_text = refl

pub blanks_text : (n : ℕ) → IsUtf8 (blanks n)
blanks_text zero = IsUtf8-nil
blanks_text (suc n) = IsUtf8-append (codes " ") (blanks n) (IsUtf8-from_is_utf8 (codes " ") blank_text) (blanks_text n)

-- a text behind blanks and a mark, as a row
pub marked_text : (w : ℕ) (mark text old a b : Text) → IsUtf8 mark → IsUtf8 text → a ≡ old ++ blanks w → b ≡ a ++ rows_text ((chars mark ++ chars text) ∷ []) → b ≡ old ++ rows_text (chars (blanks w ++ (mark ++ text)) ∷ [])
marked_text w mark text old a b is_mark is_text e1 e2 =
    let bytes = encode_utf8_all (spaced (chars mark ++ chars text)) in
    let seen : bytes ≡ spaced (mark ++ text) =
    sym (spaced_encoded (chars mark ++ chars text)) ∙ ap spaced (encodes-append (chars mark) (chars text) ∙ ap (λ z. z ++ encode_utf8_all (chars text)) (encodes-chars mark is_mark) ∙ ap (λ z. mark ++ z) (encodes-chars text is_text)) in
    let whole : encode_utf8_all (spaced (chars (blanks w ++ (mark ++ text)))) ≡ blanks w ++ spaced (mark ++ text) =
    spaced_text (blanks w ++ (mark ++ text)) (IsUtf8-append (blanks w) (mark ++ text) (blanks_text w) (IsUtf8-append mark text is_mark is_text))
    ∙ spaced-append (blanks w) (mark ++ text)
    ∙ ap (λ z. z ++ spaced (mark ++ text)) (spaced-blanks w) in
    e2
    ∙ ap (λ z. z ++ ((bytes ++ 10 ∷ []) ++ [])) e1
    ∙ append_assoc old (blanks w) ((bytes ++ 10 ∷ []) ++ [])
    ∙ ap (λ z. old ++ (blanks w ++ ((z ++ 10 ∷ []) ++ []))) seen
    ∙ ap (λ z. old ++ z) (sym (append_assoc (blanks w) (spaced (mark ++ text) ++ 10 ∷ []) []) ∙ ap (λ z. z ++ []) (sym (append_assoc (blanks w) (spaced (mark ++ text)) (10 ∷ []))))
    ∙ ap (λ z. old ++ ((z ++ 10 ∷ []) ++ [])) (sym whole)

mark_text : is_utf8 (codes "::: ") ≡ true
unfolding is_utf8 chars lib.Utf8.encode
mark_text = refl

-- the place of another file
pub other_row : (w : ℕ) (text want old a b : Text) → IsUtf8 text → text ≡ want → a ≡ old ++ blanks w → b ≡ a ++ rows_text ((chars (codes "::: ") ++ chars text) ∷ []) → b ≡ old ++ rows_text (chars (blanks w ++ (codes "::: " ++ want)) ∷ [])
other_row w text want old a b utf8 is e1 e2 =
    marked_text w (codes "::: ") text old a b (IsUtf8-from_is_utf8 (codes "::: ") mark_text) utf8 e1 e2
    ∙ ap (λ z. old ++ rows_text (chars (blanks w ++ (codes "::: " ++ z)) ∷ [])) is

pub shown_is : (name : FileName) (line other col next : ℕ) → line ≡ other → col ≡ next → shown_name name ++ (codes ":" ++ (decimal line ++ (codes ":" ++ decimal col))) ≡ shown (name_of name) ++ (codes ":" ++ (decimal other ++ (codes ":" ++ decimal next)))
shown_is name line other col next same also =
    ap (λ z. z ++ (codes ":" ++ (decimal line ++ (codes ":" ++ decimal col)))) (name_shown name)
    ∙ ap (λ n. shown (name_of name) ++ (codes ":" ++ (decimal n ++ (codes ":" ++ decimal col)))) same
    ∙ ap (λ n. shown (name_of name) ++ (codes ":" ++ (decimal other ++ (codes ":" ++ decimal n)))) also

pub no_line : (found : Option (List ℕ)) → None ≡ found → chars [] ≡ unwrap_or found []
no_line found none = chars-nil ∙ ap (λ z. unwrap_or z []) none

-- rows one after another
rows_both : (xs ys : List (List ℕ)) (old a b : Text) → a ≡ old ++ rows_text xs → b ≡ a ++ rows_text ys → b ≡ old ++ rows_text (xs ++ ys)
rows_both xs ys old a b e1 e2 = e2 ∙ ap (λ z. z ++ rows_text ys) e1 ∙ append_assoc old (rows_text xs) (rows_text ys) ∙ ap (λ z. old ++ z) (sym (rows_text-append xs ys))

pub three_rows_if : {X : Type 0} (r1 r2 r3 : List ℕ) (old a b c : Text) (r : Result (Unit {0}) X) → a ≡ old ++ rows_text (r1 ∷ []) → b ≡ a ++ rows_text (r2 ∷ []) → OnOk r (c ≡ b ++ rows_text (r3 ∷ [])) → OnOk r (c ≡ old ++ rows_text (r1 ∷ r2 ∷ r3 ∷ []))
three_rows_if r1 r2 r3 old a b c (Err e) e1 e2 e3 = tt
three_rows_if r1 r2 r3 old a b c (Ok u) e1 e2 e3 = rows_both (r1 ∷ r2 ∷ []) (r3 ∷ []) old b c (rows_both (r1 ∷ []) (r2 ∷ []) old a b e1 e2) e3
