-- Texts that are added to a page.
use Rattle.std.proofs.Common.{◌≡◌, ℕ, zero, suc, ◌<◌, ◌≤◌, ◌+◌, Bool, false, true, cond, nat_eq, List, [], ◌∷◌, ◌++◌, map, length, take, drop, get_or, refl, ap, sym, ◌∙◌, subst, arith, append_assoc, append-nil, Option, Some, None}
use Rattle.std.specs.Prelude.{MatchOption, replicate, codes, string_bytes, Result, Ok, Err, OnOk, is_ok, if◌then◌else◌}
use Rattle.std.specs.Borrow.{Bor}
use Rattle.std.specs.declared.alloc.Global.{Global}
use Rattle.std.specs.declared.vec.Vec.{Vec}
use Rattle.std.specs.List.{flat_map}
use Rattle.std.specs.Str.{IsUtf8, chars, encode_utf8_all}
use Rattle.std.proofs.lemmas.Bool.{ne_eqb}
use Rattle.std.proofs.lemmas.Grind.{flat_map-append}
use Rattle.std.proofs.lemmas.List.{length-append, map-append, length-drop, length-map, take_all}
use Rattle.std.proofs.lemmas.Str.{encode_ascii, encodes-append, encodes-chars, IsUtf8-past_char, IsUtf8-drop, IsCharBoundary-before_ascii}
use Rattle.std.proofs.lemmas.Str.Pattern.{IsSplitOnceResult, split_parts, drop_at_char}
use Rattle.jsx_base.specs.Lines.{before_first, lines}
use Rattle.jsx_diag.specs.declared.level.Level.{Level}
use Rattle.jsx_diag.specs.declared.level.Level.TheVariants as level
use Rattle.jsx_diag.specs.Level.{shown_text}
use Rattle.jsx_diag.specs.Data.{Text, Piece}
use Rattle.jsx_draw.specs.declared.styled_buffer.StyledString.{StyledString}
use Rattle.jsx_draw.specs.Grid.{Cell, Grid, Run, add_cell, add_cells, run_of, run_of_cell, same_style, shown_cell, shown_row, shown_runs}
use Rattle.jsx_emit.specs.Page.{blanks, spaced, message_text, page_text, rows_text}
use Rattle.jsx_emit.specs.Layout.{before_all, colon, indented, note_lines}
use Rattle.jsx_emit.specs.Texts.{Lined, Tabbed, before_note, hanging, line_break, run_chars}
use Rattle.jsx_emit.specs.Written.{grid_chars, row_chars}

-- ---- tabs

abbrev pub spaced_byte : ℕ → List ℕ
spaced_byte b = cond (nat_eq b 9) (blanks 4) (b ∷ [])

pub spaced-append : (xs ys : Text) → spaced (xs ++ ys) ≡ spaced xs ++ spaced ys
spaced-append xs ys = flat_map-append spaced_byte xs ys

-- a text without this byte
abbrev pub Without : ℕ → Text → Type 0
Without c bs = (i : ℕ) → i < length bs → get_or bs i 0 ≡ c → ⊥

without_more : (c b : ℕ) (bs : Text) → Without c (b ∷ bs) → Without c bs
without_more c b bs none = λ i less. none (suc i) (omega (arith, less))

plain_byte : (b : ℕ) → (b ≡ 9 → ⊥) → spaced_byte b ≡ b ∷ []
plain_byte b other = ap (λ is. cond is (blanks 4) (b ∷ [])) (ne_eqb b 9 other)

pub plain : (bs : Text) → Without 9 bs → spaced bs ≡ bs
plain [] none = refl
plain (b ∷ bs) none = ap (λ z. z ++ spaced bs) (plain_byte b (none 0 (omega arith))) ∙ ap (λ z. b ∷ z) (plain bs (without_more 9 b bs none))

-- what stands behind an ASCII character is a text
first_within : (c : ℕ) (bs : Text) (i : ℕ) (rest : Text) → drop i bs ≡ c ∷ rest → i < length bs
first_within c bs i rest split = omega (arith, ap length split, length-drop i bs)

behind_byte : (c : ℕ) (bs : Text) (i j : ℕ) → c < 128 → IsUtf8 bs → i < length bs → get_or bs i 0 ≡ c → drop i bs ≡ c ∷ drop j bs → IsUtf8 (drop j bs)
behind_byte c bs i j ascii utf8 within byte split =
    let back : IsUtf8 (c ∷ drop j bs) = subst (λ z. IsUtf8 z) split (IsUtf8-drop bs i utf8 (IsCharBoundary-before_ascii bs i within (omega (arith, byte, ascii)))) in
    IsUtf8-past_char (c ∷ drop j bs) (drop j bs) c back (ap (λ z. z ++ drop j bs) (sym (encode_ascii c ascii)))

-- where a text is split at an ASCII character
record Halves (c : ℕ) (bs front behind : Text) : Type 0 where
  none : Without c front
  is : bs ≡ front ++ c ∷ behind
  is_text : IsUtf8 behind

halves : (c : ℕ) (bs : Text) (it : Bor (List ℕ) × Bor (List ℕ)) → c < 128 → IsUtf8 bs → IsSplitOnceResult c bs (Some it) → Halves c bs it.0.now it.1.now
halves c bs it ascii utf8 h =
    let parts = split_parts c bs (Some it) h ascii in
    let at = h.2.1 in
    let split : drop h.0 bs ≡ c ∷ drop h.1 bs = drop_at_char c bs h.0 h.1 at ascii in
    let behind : IsUtf8 (drop h.1 bs) = behind_byte c bs h.0 h.1 ascii utf8 (first_within c bs h.0 (drop h.1 bs) split) (at.byte ascii) split in
    record { none = parts.1; is = parts.0; is_text = subst (λ z. IsUtf8 z) (sym h.4) behind }

shorter_behind : (c : ℕ) (bs front behind : Text) → Halves c bs front behind → length behind < length bs
shorter_behind c bs front behind it = omega (arith, ap length it.is, length-append front (c ∷ behind))

tabbed : (bs front behind : Text) → Halves 9 bs front behind → Tabbed bs front behind
tabbed bs front behind it = record {
  shown = ap spaced it.is ∙ spaced-append front (9 ∷ behind) ∙ ap (λ z. z ++ spaced (9 ∷ behind)) (plain front it.none);
  shorter = shorter_behind 9 bs front behind it;
  is_text = it.is_text;
}

pub split_tab_result : (bs : Text) (r : Option (Bor (List ℕ) × Bor (List ℕ))) → IsUtf8 bs → IsSplitOnceResult 9 bs r → MatchOption r (spaced bs ≡ bs) (λ it. Tabbed bs it.0.now it.1.now)
split_tab_result bs None utf8 h = plain bs (split_parts 9 bs None h (omega arith))
split_tab_result bs (Some it) utf8 h = tabbed bs it.0.now it.1.now (halves 9 bs it (omega arith) utf8 h)

-- ---- levels and messages

spaced_word : (l : Level) → spaced (shown_text l) ≡ shown_text l
spaced_word level.Bug = refl
spaced_word level.Fatal = refl
spaced_word level.PhaseFatal = refl
spaced_word level.Error = refl
spaced_word level.Warning = refl
spaced_word level.Note = refl
spaced_word level.Help = refl
spaced_word level.Cancelled = refl
spaced_word level.FailureNote = refl

spaced_colon : (word : Text) → spaced (colon word) ≡ colon word
spaced_colon [] = refl
spaced_colon (b ∷ word) = refl

pub message_more : (done : List Piece) (piece : Piece) (old text new : Text) → text ≡ old ++ spaced (message_text done) → new ≡ text ++ spaced piece.text → new ≡ old ++ spaced (message_text (done ++ piece ∷ []))
message_more done piece old text new before is =
    is
    ∙ ap (λ z. z ++ spaced piece.text) before
    ∙ append_assoc old (spaced (message_text done)) (spaced piece.text)
    ∙ ap (λ z. old ++ z) (sym (spaced-append (message_text done) piece.text) ∙ ap spaced (sym (flat_map-append (λ (it : Piece). it.text) done (piece ∷ []) ∙ ap (λ z. message_text done ++ z) (append-nil piece.text))))

-- ---- rows

-- rows of runs as a text
abbrev pub runs_text : List (List Run) → Text
runs_text rows = flat_map (λ runs. encode_utf8_all (run_chars runs) ++ 10 ∷ []) rows

chars_joined : (same : Bool) (run : Run) (cell : Cell) → run_chars (cond same (record run { text = run.text ++ cell.0 ∷ [] } ∷ []) (run ∷ run_of_cell cell ∷ [])) ≡ run.text ++ cell.0 ∷ []
chars_joined true run cell = append-nil (run.text ++ cell.0 ∷ [])
chars_joined false run cell = refl

chars_add : (runs : List Run) (cell : Cell) → run_chars (add_cell runs cell) ≡ run_chars runs ++ cell.0 ∷ []
chars_add [] cell = refl
chars_add (run ∷ []) cell = chars_joined (same_style run.style cell.1) run cell ∙ ap (λ z. z ++ cell.0 ∷ []) (sym (append-nil run.text))
chars_add (run ∷ next ∷ more) cell = ap (λ z. run.text ++ z) (chars_add (next ∷ more) cell) ∙ sym (append_assoc run.text (run_chars (next ∷ more)) (cell.0 ∷ []))

chars_add_all : (runs : List Run) (cells : List Cell) → run_chars (add_cells runs cells) ≡ run_chars runs ++ row_chars cells
chars_add_all runs [] = sym (append-nil (run_chars runs))
chars_add_all runs (cell ∷ cells) = chars_add_all (add_cell runs cell) cells ∙ ap (λ z. z ++ row_chars cells) (chars_add runs cell) ∙ append_assoc (run_chars runs) (cell.0 ∷ []) (row_chars cells)

chars_cell : (tab : Bool) (cell : Cell) → row_chars (cond tab (replicate 4 (32, cell.1)) (cell ∷ [])) ≡ cond tab (blanks 4) (cell.0 ∷ [])
chars_cell true cell = refl
chars_cell false cell = refl

chars_shown : (row : List Cell) → row_chars (flat_map shown_cell row) ≡ spaced (row_chars row)
chars_shown [] = refl
chars_shown (cell ∷ row) = map-append (λ (it : Cell). it.0) (shown_cell cell) (flat_map shown_cell row) ∙ ap (λ z. z ++ row_chars (flat_map shown_cell row)) (chars_cell (nat_eq cell.0 9) cell) ∙ ap (λ z. spaced_byte cell.0 ++ z) (chars_shown row)

pub rows_shown : (grid : Grid) → runs_text (map shown_row grid) ≡ rows_text (grid_chars grid)
rows_shown [] = refl
rows_shown (row ∷ grid) = ap (λ z. (encode_utf8_all z ++ 10 ∷ []) ++ runs_text (map shown_row grid)) (chars_add_all [] (flat_map shown_cell row) ∙ chars_shown row) ∙ ap (λ z. (encode_utf8_all (spaced (row_chars row)) ++ 10 ∷ []) ++ z) (rows_shown grid)

-- one run more
pub run_more : (done : List Run) (it : StyledString) (old text new bytes : Text) → IsUtf8 bytes → bytes ≡ string_bytes it.text → text ≡ old ++ encode_utf8_all (run_chars done) → new ≡ text ++ bytes → new ≡ old ++ encode_utf8_all (run_chars (done ++ run_of it ∷ []))
run_more done it old text new bytes utf8 same before is =
    let cs = chars (string_bytes it.text) in
    let one : bytes ≡ encode_utf8_all cs = sym (encodes-chars bytes utf8) ∙ ap (λ z. encode_utf8_all (chars z)) same in
    is
    ∙ ap (λ z. z ++ bytes) before
    ∙ append_assoc old (encode_utf8_all (run_chars done)) bytes
    ∙ ap (λ z. old ++ z) (ap (λ z. encode_utf8_all (run_chars done) ++ z) one ∙ sym (encodes-append (run_chars done) cs) ∙ ap encode_utf8_all (ap (λ z. run_chars done ++ z) (sym (append-nil cs)) ∙ sym (flat_map-append (λ (run : Run). run.text) done (run_of it ∷ []))))

-- one row more
pub row_more : (done : List (List Run)) (runs : List Run) (old text new : Text) → text ≡ old ++ runs_text done → new ≡ text ++ (encode_utf8_all (run_chars runs) ++ 10 ∷ []) → new ≡ old ++ runs_text (done ++ runs ∷ [])
row_more done runs old text new before is =
    let row = encode_utf8_all (run_chars runs) ++ 10 ∷ [] in
    is
    ∙ ap (λ z. z ++ row) before
    ∙ append_assoc old (runs_text done) row
    ∙ ap (λ z. old ++ z) (ap (λ z. runs_text done ++ z) (sym (append-nil row)) ∙ sym (flat_map-append (λ (it : List Run). encode_utf8_all (run_chars it) ++ 10 ∷ []) done (runs ∷ [])))

-- all rows of a grid
pub rows_all : (grid : Grid) (rows : List (Vec StyledString Global)) (i : ℕ) (old text : Text) → map shown_runs rows ≡ map shown_row grid → length rows ≤ i → text ≡ old ++ runs_text (take i (map shown_runs rows)) → text ≡ old ++ rows_text (grid_chars grid)
rows_all grid rows i old text same all is =
    is
    ∙ ap (λ z. old ++ runs_text z) (take_all i (map shown_runs rows) (omega (arith, all, length-map rows shown_runs)) ∙ same)
    ∙ ap (λ z. old ++ z) (rows_shown grid)

-- ---- notes that point nowhere

abbrev hanging_byte : ℕ → ℕ → Text
hanging_byte n b = cond (nat_eq b 10) (line_break n) (spaced (b ∷ []))

hanging-append : (n : ℕ) (xs ys : Text) → hanging n (xs ++ ys) ≡ hanging n xs ++ hanging n ys
hanging-append n xs ys = flat_map-append (hanging_byte n) xs ys

-- a text without LF
unbroken : (n : ℕ) (bs : Text) → Without 10 bs → hanging n bs ≡ spaced bs
unbroken n [] none = refl
unbroken n (b ∷ bs) none =
    ap (λ is. cond is (line_break n) (spaced (b ∷ [])) ++ hanging n bs) (ne_eqb b 10 (none 0 (omega arith)))
    ∙ ap (λ z. spaced (b ∷ []) ++ z) (unbroken n bs (without_more 10 b bs none))
    ∙ sym (spaced-append (b ∷ []) bs)

lined : (bs line behind : Text) → Halves 10 bs line behind → Lined bs line behind
lined bs line behind it = record {
  shown = λ n. ap (hanging n) it.is ∙ hanging-append n line (10 ∷ behind) ∙ ap (λ z. z ++ hanging n (10 ∷ behind)) (unbroken n line it.none);
  shorter = shorter_behind 10 bs line behind it;
  is_text = it.is_text;
}

pub split_line_result : (bs : Text) (r : Option (Bor (List ℕ) × Bor (List ℕ))) → IsUtf8 bs → IsSplitOnceResult 10 bs r → MatchOption r ((n : ℕ) → hanging n bs ≡ spaced bs) (λ it. Lined bs it.0.now it.1.now)
split_line_result bs None utf8 h = λ n. unbroken n bs (split_parts 10 bs None h (omega arith))
split_line_result bs (Some it) utf8 h = lined bs it.0.now it.1.now (halves 10 bs it (omega arith) utf8 h)

-- one more piece of a message
pub piece_more : (n : ℕ) (done : List Piece) (piece : Piece) (old text new : Text) → text ≡ old ++ hanging n (message_text done) → new ≡ text ++ hanging n piece.text → new ≡ old ++ hanging n (message_text (done ++ piece ∷ []))
piece_more n done piece old text new before is =
    is
    ∙ ap (λ z. z ++ hanging n piece.text) before
    ∙ append_assoc old (hanging n (message_text done)) (hanging n piece.text)
    ∙ ap (λ z. old ++ z) (sym (hanging-append n (message_text done) piece.text) ∙ ap (hanging n) (sym (flat_map-append (λ (it : Piece). it.text) done (piece ∷ []) ∙ ap (λ z. message_text done ++ z) (append-nil piece.text))))

pub spaced-blanks : (n : ℕ) → spaced (blanks n) ≡ blanks n
spaced-blanks zero = refl
spaced-blanks (suc n) = ap (λ z. 32 ∷ z) (spaced-blanks n)

-- the lines of a message, of which the first stands behind p
abbrev hung : ℕ → Text → List Text → Text
hung n p parts = page_text (before_all p (indented n parts))

first_moved : (n : ℕ) (p : Text) (c : ℕ) (parts : List Text) → hung n p (before_first c parts) ≡ hung n (p ++ c ∷ []) parts
first_moved n p c [] = refl
first_moved n p c (line ∷ more) = ap (λ z. page_text (z ∷ map (λ it. blanks n ++ it) more)) (sym (append_assoc p (c ∷ []) line))

-- a text has a first line
record Begun (parts : List Text) : Type 0 where
  line : Text
  more : List Text
  are : parts ≡ line ∷ more

begun_more : (is : Bool) (c : ℕ) (parts : List Text) → Begun parts → Begun (cond is ([] ∷ parts) (before_first c parts))
begun_more true c parts it = record { line = []; more = parts; are = refl }
begun_more false c parts it = record { line = c ∷ it.line; more = it.more; are = ap (before_first c) it.are }

begun : (m : Text) → Begun (lines m)
begun [] = record { line = []; more = []; are = refl }
begun (c ∷ m) = begun_more (nat_eq c 10) c (lines m) (begun m)

next_lines : (n : ℕ) (parts : List Text) → Begun parts → page_text (map (λ it. blanks n ++ it) parts) ≡ hung n (blanks n) parts
next_lines n parts it = ap (λ z. page_text (map (λ l. blanks n ++ l) z)) it.are ∙ ap (hung n (blanks n)) (sym it.are)

hung_byte : (is : Bool) (n : ℕ) (p : Text) (c : ℕ) (m : Text) → ((q : Text) → hung n q (lines m) ≡ spaced q ++ (hanging n m ++ 10 ∷ [])) → hung n p (cond is ([] ∷ lines m) (before_first c (lines m))) ≡ spaced p ++ ((cond is (line_break n) (spaced (c ∷ [])) ++ hanging n m) ++ 10 ∷ [])
hung_byte true n p c m next =
    ap (λ z. (spaced z ++ 10 ∷ []) ++ page_text (map (λ it. blanks n ++ it) (lines m))) (append-nil p)
    ∙ ap (λ z. (spaced p ++ 10 ∷ []) ++ z) (next_lines n (lines m) (begun m) ∙ next (blanks n) ∙ ap (λ z. z ++ (hanging n m ++ 10 ∷ [])) (spaced-blanks n))
    ∙ append_assoc (spaced p) (10 ∷ []) (blanks n ++ (hanging n m ++ 10 ∷ []))
    ∙ ap (λ z. spaced p ++ 10 ∷ z) (sym (append_assoc (blanks n) (hanging n m) (10 ∷ [])))
hung_byte false n p c m next =
    first_moved n p c (lines m)
    ∙ next (p ++ c ∷ [])
    ∙ ap (λ z. z ++ (hanging n m ++ 10 ∷ [])) (spaced-append p (c ∷ []))
    ∙ append_assoc (spaced p) (spaced (c ∷ [])) (hanging n m ++ 10 ∷ [])
    ∙ ap (λ z. spaced p ++ z) (sym (append_assoc (spaced (c ∷ [])) (hanging n m) (10 ∷ [])))

hung_lines : (n : ℕ) (p m : Text) → hung n p (lines m) ≡ spaced p ++ (hanging n m ++ 10 ∷ [])
hung_lines n p [] = ap (λ z. (spaced z ++ 10 ∷ []) ++ []) (append-nil p) ∙ append-nil (spaced p ++ 10 ∷ [])
hung_lines n p (c ∷ m) = hung_byte (nat_eq c 10) n p c m (λ q. hung_lines n q m)

spaced_before : (w : ℕ) (l : Level) → spaced (before_note w l) ≡ before_note w l
spaced_before w l =
    let word = shown_text l in
    spaced-append (blanks (w + 1)) (codes "= " ++ (word ++ colon word))
    ∙ ap (λ z. z ++ spaced (codes "= " ++ (word ++ colon word))) (spaced-blanks (w + 1))
    ∙ ap (λ z. blanks (w + 1) ++ (codes "= " ++ z)) (spaced-append word (colon word) ∙ ap (λ z. z ++ spaced (colon word)) (spaced_word l) ∙ ap (λ z. word ++ z) (spaced_colon word))

-- a note that points nowhere
pub note_text : (w : ℕ) (l : Level) (m old a b c : Text) → a ≡ old ++ before_note w l → b ≡ a ++ hanging (w + 9) m → c ≡ b ++ 10 ∷ [] → c ≡ old ++ page_text (note_lines w l m)
note_text w l m old a b c first second third =
    third
    ∙ ap (λ z. z ++ 10 ∷ []) (second ∙ ap (λ z. z ++ hanging (w + 9) m) first)
    ∙ append_assoc (old ++ before_note w l) (hanging (w + 9) m) (10 ∷ [])
    ∙ append_assoc old (before_note w l) (hanging (w + 9) m ++ 10 ∷ [])
    ∙ ap (λ z. old ++ z) (ap (λ z. z ++ (hanging (w + 9) m ++ 10 ∷ [])) (sym (spaced_before w l)) ∙ sym (hung_lines (w + 9) (before_note w l) m))

pub note_text_if : {X : Type 0} (w : ℕ) (l : Level) (m old a b c : Text) (r : Result (Unit {0}) X) → a ≡ old ++ before_note w l → b ≡ a ++ hanging (w + 9) m → c ≡ (if is_ok r then b ++ 10 ∷ [] else b) → OnOk r (c ≡ old ++ page_text (note_lines w l m))
note_text_if w l m old a b c (Ok x) first second third = note_text w l m old a b c first second third
note_text_if w l m old a b c (Err e) first second third = tt
