-- What a suggestion writes in each way.
use Rattle.std.proofs.Common.{◌≡◌, ℕ, zero, suc, ◌+◌, ◌-◌, ◌<◌, ◌≤◌, Bool, true, false, ◌&&◌, cond, nat_eq, nat_le, nat_lt, List, [], ◌∷◌, ◌++◌, map, length, take, drop, get_or, Option, Some, None, refl, ap, sym, ◌∙◌, arith, append_assoc, length-append}
use Rattle.std.specs.Prelude.{Result, Ok, Err, IfOk, OnOk, codes}
use Rattle.std.specs.List.{list_all, flat_map}
use Rattle.std.specs.Option.{is_none}
use Rattle.std.specs.Str.{chars}
use Rattle.std.specs.declared.alloc.Global.{Global}
use Rattle.std.specs.declared.string.String.{String}
use Rattle.std.specs.declared.vec.Vec.{Vec}
use Rattle.std.proofs.lemmas.Bool.{ne_eqb}
use Rattle.std.proofs.lemmas.Bool.Decides.{nat_tests}
use Rattle.std.proofs.Math.Seq.{drop-cons}
use Rattle.std.proofs.Math.Utf8.{scalars}
use Rattle.std.proofs.lemmas.List.{append-nil, drop_all, get_or-map, length-map, map-append, take-map}
use Rattle.std.proofs.lemmas.Str.{chars-encodes}
use Rattle.jsx_base.specs.Lines.{lines}
use Rattle.jsx_base.specs.LineStarts.{Split}
use Rattle.jsx_base.specs.Files.{File}
use Rattle.jsx_base.specs.SpanPlaces.{high, low}
use Rattle.jsx_diag.specs.declared.level.Style.TheVariants as style
use Rattle.jsx_diag.specs.declared.splice.SpliceError.{SpliceError}
use Rattle.jsx_diag.specs.declared.suggestion.SubstitutionPart.{SubstitutionPart}
use Rattle.jsx_diag.specs.Data.{Text, Edit, Suggestion, edit_of}
use Rattle.jsx_diag.specs.Splice.{Spliced, by_start, fault, refusal, splice_of, spliced, spliced_data, spliced_in, parts_file}
use Rattle.jsx_draw.specs.Grid.{Cell, Grid, change_at, in_style, put_before, put_cell, put_text}
use Rattle.jsx_draw.proofs.Grids.{extended_more, extended_none}
use Rattle.jsx_emit.specs.Page.{blanks, rows_text}
use Rattle.jsx_emit.specs.Written.{below_drawn, end_row, first_number, grid_chars, help_grid, if_written, in_turn, is_cut, next_row, others_text, set_in, shown_ways, source_drawn, sources_drawn, suggestion_rows, way_drawn, ways_below, ways_drawn}
use Rattle.jsx_emit.proofs.Rows.{encoded_blanks}

-- ---- parts that don't overlap

-- no part begins before the one before it ends, and the first not before this place
abbrev pub turns : ℕ → List Edit → Bool
turns end [] = true
turns end (part ∷ more) = nat_le end (low part.span) && turns (high part.span) more

turns_behind : (part : Edit) (more : List Edit) → in_turn (part ∷ more) ≡ turns (high part.span) more
turns_behind part [] = refl
turns_behind part (next ∷ more) = ap (λ z. nat_le (high part.span) (low next.span) && z) (turns_behind next more)

pub turns_all : (es : List Edit) → turns 0 es ≡ in_turn es
turns_all [] = refl
turns_all (part ∷ more) = ap (λ b. b && turns (high part.span) more) (let e : nat_le 0 (low part.span) ≡ true = grind (arith, nat_tests) in e) ∙ sym (turns_behind part more)

-- what is left to see decides
pub record Turning (es : List Edit) (i end : ℕ) : Type 0 where
  pub left : turns end (drop i es) ≡ in_turn es

item_at : {X Y : Type 0} (f : X → Y) (xs : List X) (i : ℕ) (x : X) → i < length xs → x ≡ get_or xs i x → drop i (map f xs) ≡ f x ∷ drop (i + 1) (map f xs)
item_at f xs i x within at =
    drop-cons (map f xs) i (f x) (omega (arith, length-map xs f))
    ∙ ap (λ z. z ∷ drop (suc i) (map f xs)) (get_or-map f xs i x (f x) within ∙ ap f (sym at))
    ∙ ap (λ k. f x ∷ drop k (map f xs)) (let e : suc i ≡ i + 1 = omega arith in e)

pub turning_more : (parts : List SubstitutionPart) (i end low_end high_end : ℕ) (part : SubstitutionPart) → i < length parts → part ≡ get_or parts i part → low_end ≡ low part.span → high_end ≡ high part.span → end ≤ low_end → Turning (map edit_of parts) i end → Turning (map edit_of parts) (i + 1) high_end
turning_more parts i end low_end high_end part within at is_low is_high order it =
    let seen : nat_le end (low part.span) ≡ true = grind (arith, nat_tests) in
    record {
      left =
          ap (λ n. turns n (drop (i + 1) (map edit_of parts))) is_high
          ∙ sym (ap (turns end) (item_at edit_of parts i part within at) ∙ ap (λ b. b && turns (high part.span) (drop (i + 1) (map edit_of parts))) seen)
          ∙ it.left;
    }

pub turning_not : (parts : List SubstitutionPart) (i end low_end : ℕ) (part : SubstitutionPart) → i < length parts → part ≡ get_or parts i part → low_end ≡ low part.span → low_end < end → Turning (map edit_of parts) i end → false ≡ in_turn (map edit_of parts)
turning_not parts i end low_end part within at is_low order it =
    let seen : nat_le end (low part.span) ≡ false = grind (arith, nat_tests) in
    sym (ap (turns end) (item_at edit_of parts i part within at) ∙ ap (λ b. b && turns (high part.span) (drop (i + 1) (map edit_of parts))) seen) ∙ it.left

pub turning_all : (parts : List SubstitutionPart) (i end : ℕ) → length parts ≤ i → Turning (map edit_of parts) i end → true ≡ in_turn (map edit_of parts)
turning_all parts i end all it = sym (ap (turns end) (drop_all i (map edit_of parts) (omega (arith, length-map parts edit_of)))) ∙ it.left

-- ---- the ways that are shown

abbrev Way : Type 0
Way = String Global × Vec SubstitutionPart Global

parts_are : (o : Option File) (es : List Edit) (d : Spliced) → Some d ≡ splice_of o es → d.parts ≡ by_start es
parts_are None es d e = cc
parts_are (Some file) es d e = ap (λ (z : Spliced). z.parts) (let same : d ≡ spliced_in file es = cc in same)

record AsShown (files : List File) (ways : List Way) (edits : List (List Edit)) : Type 0 where
  turns_same : list_all (λ way. in_turn (spliced_data way).parts) ways ≡ list_all (λ way. in_turn (by_start way)) edits
  ways_same : map spliced_data ways ≡ flat_map (λ way. if_written (spliced files way)) edits

as_shown : (files : List File) (ways : List Way) (edits : List (List Edit)) → map (λ it. Some (spliced_data it)) ways ≡ map (spliced files) edits → AsShown files ways edits
as_shown files [] [] e = record { turns_same = refl; ways_same = refl }
as_shown files [] (es ∷ edits) e = cc
as_shown files (way ∷ ways) [] e = cc
as_shown files (way ∷ ways) (es ∷ edits) e =
    let here : Some (spliced_data way) ≡ spliced files es = cc in
    let there : map (λ it. Some (spliced_data it)) ways ≡ map (spliced files) edits = cc in
    let more = as_shown files ways edits there in
    record {
      turns_same =
          ap (λ z. in_turn z && list_all (λ way. in_turn (spliced_data way).parts) ways) (parts_are (parts_file files es) es (spliced_data way) here)
          ∙ ap (λ b. in_turn (by_start es) && b) more.turns_same;
      ways_same = ap (λ z. spliced_data way ∷ z) more.ways_same ∙ ap (λ o. if_written o ++ flat_map (λ way. if_written (spliced files way)) edits) here;
    }

kept : (b : Bool) (ways : List Way) → map spliced_data (cond b ways []) ≡ cond b (map spliced_data ways) []
kept true ways = refl
kept false ways = refl

pub ways_shown : (files : List File) (it : Suggestion) (ways left : List Way) → refusal files it.substitutions ≡ None → map (λ it. Some (spliced_data it)) ways ≡ map (spliced files) it.substitutions → left ≡ cond (list_all (λ way. in_turn (spliced_data way).parts) ways) ways [] → map spliced_data left ≡ shown_ways files it
ways_shown files it ways left taken texts is =
    let same = as_shown files ways it.substitutions texts in
    let edits = it.substitutions in
    ap (map spliced_data) is
    ∙ kept (list_all (λ way. in_turn (spliced_data way).parts) ways) ways
    ∙ ap (λ b. cond b (map spliced_data ways) []) same.turns_same
    ∙ ap (λ z. cond (list_all (λ way. in_turn (by_start way)) edits) z []) same.ways_same
    ∙ ap (λ o. cond (is_none o && list_all (λ way. in_turn (by_start way)) edits) (flat_map (λ way. if_written (spliced files way)) edits) []) (sym taken)

pub none_shown : (files : List File) (it : Suggestion) (error : SpliceError) (left : List Way) → refusal files it.substitutions ≡ fault error → is_none (fault error) ≡ false → left ≡ [] → map spliced_data left ≡ shown_ways files it
none_shown files it error left refused some is =
    ap (map spliced_data) is
    ∙ sym (ap (λ b. cond (b && list_all (λ way. in_turn (by_start way)) it.substitutions) (flat_map (λ way. if_written (spliced files way)) it.substitutions) []) (ap is_none refused ∙ some))

-- ---- the lines of a text

-- the lines behind the first count, of which six are shown
abbrev pub lines_left : ℕ → Text → List (List ℕ)
lines_left count rest = take (6 - count) (lines (chars rest))

taken_next : (count : ℕ) (rest line behind : Text) → count < 6 → Split rest line behind → lines_left count rest ≡ chars line ∷ lines_left (count + 1) behind
taken_next count rest line behind less split =
    let e : 6 - count ≡ suc (6 - (count + 1)) = omega (arith, less) in
    ap (λ k. take k (lines (chars rest))) e ∙ ap (λ z. take (suc (6 - (count + 1))) z) split.lines_are

taken_last : (count : ℕ) (rest : Text) → count < 6 → lines (chars rest) ≡ chars rest ∷ [] → lines_left count rest ≡ chars rest ∷ []
taken_last count rest less sole =
    let e : 6 - count ≡ suc (6 - (count + 1)) = omega (arith, less) in
    ap (λ k. take k (lines (chars rest))) e ∙ ap (λ z. take (suc (6 - (count + 1))) z) sole ∙ none_behind (6 - (count + 1)) (chars rest)
  where
    none_behind : (k : ℕ) (line : List ℕ) → take (suc k) (line ∷ []) ≡ line ∷ []
    none_behind zero line = refl
    none_behind (suc k) line = refl

taken_none : (count : ℕ) (rest : Text) → count ≡ 6 → lines_left count rest ≡ []
taken_none count rest full =
    let e : 6 - count ≡ 0 = omega (arith, full) in
    ap (λ k. take k (lines (chars rest))) e

pub line_next : (ui : Bool) (w row number count : ℕ) (rest line behind : Text) (grid next start : Grid) → count < 6 → Split rest line behind → next ≡ source_drawn ui w row number (chars line) grid → sources_drawn ui w row number (lines_left count rest) grid ≡ start → sources_drawn ui w (row + 1) (number + 1) (lines_left (count + 1) behind) next ≡ start
line_next ui w row number count rest line behind grid next start less split is before =
    ap (sources_drawn ui w (row + 1) (number + 1) (lines_left (count + 1) behind)) is
    ∙ sym (ap (λ ls. sources_drawn ui w row number ls grid) (taken_next count rest line behind less split))
    ∙ before

pub row_next : (row count start : ℕ) (rest line behind : Text) → count < 6 → Split rest line behind → row + length (lines_left count rest) ≡ start → row + 1 + length (lines_left (count + 1) behind) ≡ start
row_next row count start rest line behind less split before =
    let long : length (lines_left count rest) ≡ length (lines_left (count + 1) behind) + 1 = ap (λ (z : List (List ℕ)). length z) (taken_next count rest line behind less split) ∙ (let e : length (chars line ∷ lines_left (count + 1) behind) ≡ length (lines_left (count + 1) behind) + 1 = omega arith in e) in
    omega (arith, long, before)

pub line_cut : (count : ℕ) (rest line behind : Text) (b : Bool) → count < 6 → Split rest line behind → nat_lt (6 - count) (length (lines (chars rest))) ≡ b → nat_lt (6 - (count + 1)) (length (lines (chars behind))) ≡ b
line_cut count rest line behind b less split before =
    let e : nat_lt (6 - count) (length (chars line ∷ lines (chars behind))) ≡ nat_lt (6 - (count + 1)) (length (lines (chars behind))) = grind (arith, nat_tests, less) in
    sym e ∙ ap (λ z. nat_lt (6 - count) (length z)) (sym split.lines_are) ∙ before

-- six lines were drawn
pub lines_full : (ui : Bool) (w row number count : ℕ) (rest : Text) (grid start : Grid) → count ≡ 6 → sources_drawn ui w row number (lines_left count rest) grid ≡ start → grid ≡ start
lines_full ui w row number count rest grid start full before = sym (ap (λ ls. sources_drawn ui w row number ls grid) (taken_none count rest full)) ∙ before

pub row_full : (row count start : ℕ) (rest : Text) → count ≡ 6 → row + length (lines_left count rest) ≡ start → row ≡ start
row_full row count start rest full before =
    let none : length (lines_left count rest) ≡ 0 = ap (λ (z : List (List ℕ)). length z) (taken_none count rest full) in
    omega (arith, none, before)

pub cut_full : (count : ℕ) (rest : Text) (line : List ℕ) (more : List (List ℕ)) (b : Bool) → count ≡ 6 → lines (chars rest) ≡ line ∷ more → nat_lt (6 - count) (length (lines (chars rest))) ≡ b → true ≡ b
cut_full count rest line more b full is before =
    let e : true ≡ nat_lt (6 - count) (length (line ∷ more)) = grind (arith, nat_tests, full) in
    e ∙ ap (λ z. nat_lt (6 - count) (length z)) (sym is) ∙ before

-- the last line is drawn
pub lines_last : (ui : Bool) (w row number count : ℕ) (rest : Text) (grid next start : Grid) → count < 6 → lines (chars rest) ≡ chars rest ∷ [] → next ≡ source_drawn ui w row number (chars rest) grid → sources_drawn ui w row number (lines_left count rest) grid ≡ start → next ≡ start
lines_last ui w row number count rest grid next start less sole is before =
    is ∙ sym (ap (λ ls. sources_drawn ui w row number ls grid) (taken_last count rest less sole)) ∙ before

pub row_last : (row below count start : ℕ) (rest : Text) → count < 6 → lines (chars rest) ≡ chars rest ∷ [] → below ≡ row + 1 → row + length (lines_left count rest) ≡ start → below ≡ start
row_last row below count start rest less sole is before =
    let one : length (lines_left count rest) ≡ 1 = ap (λ (z : List (List ℕ)). length z) (taken_last count rest less sole) in
    omega (arith, one, is, before)

pub cut_last : (count : ℕ) (rest : Text) (b : Bool) → count < 6 → lines (chars rest) ≡ chars rest ∷ [] → nat_lt (6 - count) (length (lines (chars rest))) ≡ b → false ≡ b
cut_last count rest b less sole before =
    let e : false ≡ nat_lt (6 - count) (length (chars rest ∷ [])) = grind (arith, nat_tests, less) in
    e ∙ ap (λ z. nat_lt (6 - count) (length z)) (sym sole) ∙ before

-- ---- texts one below the other

dots_spelled : chars (codes "...") ≡ codes "..."
unfolding chars
dots_spelled = refl

-- dots where lines are left
pub dots_drawn : (cut : Bool) (n w row : ℕ) (old new other : Grid) → cut ≡ true → n ≡ w - 1 → new ≡ put_text row n (in_style style.LineNumber (chars (codes "..."))) old → new ≡ cond cut (put_text row (w - 1) (in_style style.LineNumber (codes "...")) old) other
dots_drawn cut n w row old new other is e1 e2 =
    e2
    ∙ ap (λ z. put_text row n (in_style style.LineNumber z) old) dots_spelled
    ∙ ap (λ k. put_text row k (in_style style.LineNumber (codes "...")) old) e1
    ∙ ap (λ b. cond b (put_text row (w - 1) (in_style style.LineNumber (codes "...")) old) other) (sym is)

-- the lines of a way, and what stands below them
pub way_is : (ui : Bool) (files : List File) (w row number end_at : ℕ) (cut : Bool) (way : Spliced) (text : List ℕ) (parts : List Edit) (grid a b : Grid) → text ≡ way.text → parts ≡ way.parts → number ≡ first_number files parts → a ≡ sources_drawn ui w row number (take 6 (lines text)) grid → end_at ≡ end_row row text → cut ≡ is_cut text → b ≡ cond cut (put_text end_at (w - 1) (in_style style.LineNumber (codes "...")) a) (below_drawn files w end_at text parts a) → b ≡ way_drawn ui files w row way grid
way_is ui files w row number end_at cut way text parts grid a b same_text same_parts is_number e1 e2 e3 e4 =
    e4
    ∙ ap (λ z. cond z (put_text end_at (w - 1) (in_style style.LineNumber (codes "...")) a) (below_drawn files w end_at text parts a)) e3
    ∙ ap (λ n. cond (is_cut text) (put_text n (w - 1) (in_style style.LineNumber (codes "...")) a) (below_drawn files w n text parts a)) e2
    ∙ ap (λ z. cond (is_cut text) (put_text (end_row row text) (w - 1) (in_style style.LineNumber (codes "...")) z) (below_drawn files w (end_row row text) text parts z)) (e1 ∙ ap (λ n. sources_drawn ui w row n (take 6 (lines text)) grid) is_number)
    ∙ ap (λ t. cond (is_cut t) (put_text (end_row row t) (w - 1) (in_style style.LineNumber (codes "...")) (sources_drawn ui w row (first_number files parts) (take 6 (lines t)) grid)) (below_drawn files w (end_row row t) t parts (sources_drawn ui w row (first_number files parts) (take 6 (lines t)) grid))) same_text
    ∙ ap (λ ps. cond (is_cut way.text) (put_text (end_row row way.text) (w - 1) (in_style style.LineNumber (codes "...")) (sources_drawn ui w row (first_number files ps) (take 6 (lines way.text)) grid)) (below_drawn files w (end_row row way.text) way.text ps (sources_drawn ui w row (first_number files ps) (take 6 (lines way.text)) grid))) same_parts

pub way_is_if : {X : Type 0} (ui : Bool) (files : List File) (w row number end_at : ℕ) (cut : Bool) (way : Spliced) (text : List ℕ) (parts : List Edit) (grid a b : Grid) (r : Result ℕ X) → text ≡ way.text → parts ≡ way.parts → number ≡ first_number files parts → a ≡ sources_drawn ui w row number (take 6 (lines text)) grid → end_at ≡ end_row row text → cut ≡ is_cut text → OnOk r (b ≡ cond cut (put_text end_at (w - 1) (in_style style.LineNumber (codes "...")) a) (below_drawn files w end_at text parts a)) → OnOk r (b ≡ way_drawn ui files w row way grid)
way_is_if ui files w row number end_at cut way text parts grid a b (Err e) same_text same_parts is_number e1 e2 e3 e4 = tt
way_is_if ui files w row number end_at cut way text parts grid a b (Ok n) same_text same_parts is_number e1 e2 e3 e4 = way_is ui files w row number end_at cut way text parts grid a b same_text same_parts is_number e1 e2 e3 e4

pub next_is_if : {X : Type 0} (row end_at : ℕ) (cut : Bool) (way : Spliced) (text : List ℕ) (r : Result ℕ X) → text ≡ way.text → end_at ≡ end_row row text → cut ≡ is_cut text → IfOk r (λ next. next ≡ end_at + cond cut 0 1) → IfOk r (λ next. next ≡ next_row row way.text)
next_is_if row end_at cut way text (Err e) same e1 e2 e3 = tt
next_is_if row end_at cut way text (Ok n) same e1 e2 e3 =
    e3 ∙ ap (λ b. end_at + cond b 0 1) e2 ∙ ap (λ k. k + cond (is_cut text) 0 1) e1 ∙ ap (next_row row) same

pub way_next : (ui : Bool) (files : List File) (w others row below : ℕ) (shown : List Way) (i : ℕ) (way : Way) (grid next start : Grid) → i < length shown → way ≡ get_or shown i way → below ≡ next_row row (spliced_data way).text → next ≡ way_drawn ui files w row (spliced_data way) grid → ways_drawn ui files w others row (drop i (map spliced_data shown)) grid ≡ start → ways_drawn ui files w others below (drop (i + 1) (map spliced_data shown)) next ≡ start
way_next ui files w others row below shown i way grid next start within at is_below is before =
    ap (λ n. ways_drawn ui files w others n (drop (i + 1) (map spliced_data shown)) next) is_below
    ∙ ap (ways_drawn ui files w others (next_row row (spliced_data way).text) (drop (i + 1) (map spliced_data shown))) is
    ∙ sym (ap (λ z. ways_drawn ui files w others row z grid) (item_at spliced_data shown i way within at))
    ∙ before

pub ways_begun : (ui : Bool) (files : List File) (w others : ℕ) (ways shown : List Way) (grid : Grid) → shown ≡ take 4 ways → ways_drawn ui files w others 2 (drop 0 (map spliced_data shown)) grid ≡ ways_drawn ui files w others 2 (take 4 (map spliced_data ways)) grid
ways_begun ui files w others ways shown grid are = ap (λ z. ways_drawn ui files w others 2 z grid) (ap (map spliced_data) are ∙ sym (take-map spliced_data 4 ways))

pub ways_last_if : {X : Type 0} (ui : Bool) (files : List File) (w others row : ℕ) (shown : List Way) (i : ℕ) (grid next start : Grid) (r : Result (Unit {0}) X) → length shown ≤ i → OnOk r (next ≡ put_text row 0 (in_style style.NoStyle (chars (others_text others))) grid) → ways_drawn ui files w others row (drop i (map spliced_data shown)) grid ≡ start → OnOk r (next ≡ start)
ways_last_if ui files w others row shown i grid next start (Err e) all is before = tt
ways_last_if ui files w others row shown i grid next start (Ok u) all is before =
    is ∙ sym (ap (λ z. ways_drawn ui files w others row z grid) (drop_all i (map spliced_data shown) (omega (arith, all, length-map shown spliced_data)))) ∙ before

pub no_ways : (ui : Bool) (files : List File) (w : ℕ) (ways : List Way) (grid : Grid) (b : Bool) → b ≡ nat_eq (length ways) 0 → b ≡ true → grid ≡ ways_below ui files w (map spliced_data ways) grid
no_ways ui files w [] grid b tells none = refl
no_ways ui files w (way ∷ ways) grid b tells none =
    let some : nat_eq (length (way ∷ ways)) 0 ≡ false = ne_eqb (length (way ∷ ways)) 0 (λ (e : length (way ∷ ways) ≡ 0). omega (arith, e)) in
    let no : true ≡ false = sym none ∙ tells ∙ some in
    cc

pub some_ways_if : {X : Type 0} (ui : Bool) (files : List File) (w : ℕ) (ways : List Way) (grid a next : Grid) (r : Result (Unit {0}) X) (b : Bool) → b ≡ nat_eq (length ways) 0 → b ≡ false → a ≡ put_cell 1 (w + 1) (124, style.LineNumber) grid → OnOk r (next ≡ ways_drawn ui files w (length ways - 4) 2 (take 4 (map spliced_data ways)) a) → OnOk r (next ≡ ways_below ui files w (map spliced_data ways) grid)
some_ways_if ui files w ways grid a next (Err e) b tells some e1 e2 = tt
some_ways_if ui files w [] grid a next (Ok u) b tells some e1 e2 = let no : true ≡ false = sym tells ∙ some in cc
some_ways_if ui files w (way ∷ ways) grid a next (Ok u) b tells some e1 e2 =
    e2
    ∙ ap (ways_drawn ui files w (length (way ∷ ways) - 4) 2 (take 4 (map spliced_data (way ∷ ways)))) e1
    ∙ ap (λ n. ways_drawn ui files w (n - 4) 2 (take 4 (map spliced_data (way ∷ ways))) (put_cell 1 (w + 1) (124, style.LineNumber) grid)) (sym (length-map (way ∷ ways) spliced_data))

-- ---- messages

help_chars : chars (codes "help: ") ≡ codes "help: "
unfolding chars
help_chars = refl

last_changed : (grid : Grid) (change : List Cell → List Cell) (row : List Cell) → change_at (length grid) change (grid ++ row ∷ []) ≡ grid ++ change row ∷ []
last_changed [] change row = refl
last_changed (first ∷ grid) change row = ap (λ z. first ∷ z) (last_changed grid change row)

-- a row below all others, and what is put before it
row_below : (grid : Grid) (cells : List Cell) → put_before (length grid) cells grid ≡ grid ++ cells ∷ []
row_below grid cells =
    ap (change_at (length grid) (λ row. cells ++ row)) (extended_more [] (length grid) grid (omega arith) ∙ ap (λ z. z ++ [] ∷ []) (extended_none [] (length grid) grid (omega arith)))
    ∙ last_changed grid (λ row. cells ++ row) []
    ∙ ap (λ z. grid ++ z ∷ []) (append-nil cells)

before_last : (grid : Grid) (cells row : List Cell) → put_before (length grid) cells (grid ++ row ∷ []) ≡ grid ++ (cells ++ row) ∷ []
before_last grid cells row =
    ap (change_at (length grid) (λ z. cells ++ z)) (extended_none [] (length grid + 1) (grid ++ row ∷ []) (omega (arith, length-append grid (row ∷ []))))
    ∙ last_changed grid (λ z. cells ++ z) row

-- a row of two texts
pub row_of_two : {X : Type 0} (n : ℕ) (before line : List ℕ) (grid a b : Grid) (r : Result (Unit {0}) X) → n ≡ length grid → a ≡ put_before n (in_style style.NoStyle line) grid → OnOk r (b ≡ put_before n (in_style style.NoStyle before) a) → OnOk r (b ≡ grid ++ in_style style.NoStyle (before ++ line) ∷ [])
row_of_two n before line grid a b (Err e) is e1 e2 = tt
row_of_two n before line grid a b (Ok u) is e1 e2 =
    e2
    ∙ ap (put_before n (in_style style.NoStyle before)) e1
    ∙ ap (λ k. put_before k (in_style style.NoStyle before) (put_before k (in_style style.NoStyle line) grid)) is
    ∙ ap (put_before (length grid) (in_style style.NoStyle before)) (row_below grid (in_style style.NoStyle line))
    ∙ before_last grid (in_style style.NoStyle before) (in_style style.NoStyle line)
    ∙ ap (λ z. grid ++ z ∷ []) (sym (map-append (λ c. (c, style.NoStyle)) before line))

-- blanks are spelled as themselves
scalars_blanks : (n : ℕ) → scalars (blanks n) ≡ true
scalars_blanks zero = refl
scalars_blanks (suc n) = scalars_blanks n

pub blanks_spelled : (n : ℕ) → chars (blanks n) ≡ blanks n
blanks_spelled n = ap chars (sym (encoded_blanks n)) ∙ chars-encodes (blanks n) (scalars_blanks n)

-- rows behind blanks that are left to add
abbrev pub rows_in : ℕ → Text → Grid
rows_in n rest = map (in_style style.NoStyle) (set_in n (lines (chars rest)))

pub further_next : (n : ℕ) (indent rest line behind : Text) (grid next start : Grid) → chars indent ≡ blanks n → Split rest line behind → next ≡ grid ++ in_style style.NoStyle (chars indent ++ chars line) ∷ [] → grid ++ rows_in n rest ≡ start → next ++ rows_in n behind ≡ start
further_next n indent rest line behind grid next start spelled split is before =
    ap (λ z. z ++ rows_in n behind) (is ∙ ap (λ z. grid ++ in_style style.NoStyle (z ++ chars line) ∷ []) spelled)
    ∙ append_assoc grid (in_style style.NoStyle (blanks n ++ chars line) ∷ []) (rows_in n behind)
    ∙ ap (λ ls. grid ++ map (in_style style.NoStyle) (set_in n ls)) (sym split.lines_are)
    ∙ before

pub further_last_if : {X : Type 0} (n : ℕ) (indent rest : Text) (grid next start : Grid) (r : Result (Unit {0}) X) → chars indent ≡ blanks n → lines (chars rest) ≡ chars rest ∷ [] → OnOk r (next ≡ grid ++ in_style style.NoStyle (chars indent ++ chars rest) ∷ []) → grid ++ rows_in n rest ≡ start → OnOk r (next ≡ start)
further_last_if n indent rest grid next start (Err e) spelled sole is before = tt
further_last_if n indent rest grid next start (Ok u) spelled sole is before =
    is
    ∙ ap (λ z. grid ++ in_style style.NoStyle (z ++ chars rest) ∷ []) spelled
    ∙ ap (λ ls. grid ++ map (in_style style.NoStyle) (set_in n ls)) (sym sole)
    ∙ before

-- a message of one line
pub help_line : (w : ℕ) (msg : Text) (a b : Grid) → lines (chars msg) ≡ chars msg ∷ [] → a ≡ [] → b ≡ a ++ in_style style.NoStyle (chars (codes "help: ") ++ chars msg) ∷ [] → b ≡ help_grid w (lines (chars msg))
help_line w msg a b sole none is =
    is
    ∙ ap (λ z. z ++ in_style style.NoStyle (chars (codes "help: ") ++ chars msg) ∷ []) none
    ∙ ap (λ z. in_style style.NoStyle (z ++ chars msg) ∷ []) help_chars
    ∙ ap (help_grid w) (sym sole)

-- a message of several
pub help_more : (w : ℕ) (msg line behind : Text) (a b c : Grid) → Split msg line behind → a ≡ [] → b ≡ a ++ in_style style.NoStyle (chars (codes "help: ") ++ chars line) ∷ [] → c ≡ b ++ rows_in (w + 15) behind → c ≡ help_grid w (lines (chars msg))
help_more w msg line behind a b c split none e1 e2 =
    e2
    ∙ ap (λ z. z ++ rows_in (w + 15) behind) (e1 ∙ ap (λ z. z ++ in_style style.NoStyle (chars (codes "help: ") ++ chars line) ∷ []) none ∙ ap (λ z. in_style style.NoStyle (z ++ chars line) ∷ []) help_chars)
    ∙ ap (help_grid w) (sym split.lines_are)

-- ---- the whole

pub suggestion_part : (ui : Bool) (files : List File) (w : ℕ) (it : Suggestion) (ways : List Spliced) (a b : Grid) (old new : Text) → a ≡ help_grid w (lines (chars it.msg)) → ways ≡ shown_ways files it → b ≡ ways_below ui files w ways a → old ≡ [] → new ≡ old ++ rows_text (grid_chars b) → new ≡ rows_text (suggestion_rows ui files w it)
suggestion_part ui files w it ways a b old new helps are draws none adds =
    adds
    ∙ ap (λ z. z ++ rows_text (grid_chars b)) none
    ∙ ap (λ z. rows_text (grid_chars z)) (draws ∙ ap (ways_below ui files w ways) helps ∙ ap (λ z. ways_below ui files w z (help_grid w (lines (chars it.msg)))) are)
