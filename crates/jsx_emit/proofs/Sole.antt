-- The page of one span is the one that is told line by line.
use Rattle.std.proofs.Common.{◌≡◌, ℕ, ◌+◌, ◌-◌, ◌<◌, ◌≤◌, Bool, true, false, not, ◌&&◌, ◌||◌, cond, min, nat_eq, nat_lt, List, [], ◌∷◌, ◌++◌, Option, Some, None, map, length, rules, refl, ap, sym, ◌∙◌, subst, arith, append-nil}
use Rattle.std.specs.Prelude.{codes}
use Rattle.std.specs.List.{flat_map, list_any, range_with_len}
use Rattle.std.specs.Str.{IsUtf8, chars, encode_utf8_all}
use Rattle.std.specs.declared.string.String.{String}
use Rattle.std.specs.declared.alloc.Global.{Global}
use Rattle.std.proofs.lemmas.Bool.Decides.{nat_tests}
use Rattle.std.proofs.lemmas.Str.{IsUtf8-string_bytes, encodes-chars}
use Rattle.jsx_base.specs.declared.place.Span.{Span}
use Rattle.jsx_base.specs.Files.{File, place_in}
use Rattle.jsx_base.specs.MultiSpan.{Spans, is_span, label_of, labelled, unlabelled}
use Rattle.jsx_base.specs.SpanPlaces.{low, span_file}
use Rattle.jsx_diag.specs.declared.level.Level.{Level}
use Rattle.jsx_diag.specs.declared.level.Level.TheVariants as level
use Rattle.jsx_diag.specs.Data.{Text, Code}
use Rattle.jsx_emit.specs.Page.{Look, blanks, error_lines, has_end, one_line, page_text, place_line, several_lines, sole_label, sole_span, span_lines, told, told_at, told_in, rows_text}
use Rattle.jsx_draw.specs.Spots.{Reach, reach_in, ShownFile, Spot, by_lines, greatest, held_in, is_dummy, is_single, lines_put, primary_first, primary_in, primary_place, shown_files, spot_in, spot_lines, spots, spots_put}
use Rattle.jsx_emit.specs.Layout.{header}
use Rattle.jsx_emit.specs.Shows.{IsTold}
use Rattle.jsx_emit.specs.Sheets.{RowsOf, Sheet, line_blocks, place_blocks, sheet_for}
use Rattle.jsx_emit.specs.Written.{bar_row}
use Rattle.jsx_draw.specs.Drawn.{Wide}
use Rattle.jsx_emit.specs.Parts.{PlaceIsText}
use Rattle.jsx_emit.proofs.Part.{SheetFor, for_spots, plain}
use Rattle.jsx_emit.proofs.Reaches.{columns_rise, lines_rise}
use Rattle.jsx_emit.proofs.Standing.{plain_sheet}
use Rattle.jsx_emit.proofs.Told.{Plain, lines_as_rows, plain_again, plain_both, plain_first}
use Rattle.jsx_emit.proofs.ToldSingle.{IsLabel, single_rows, single_sheet, sole_spot}
use Rattle.jsx_emit.proofs.ToldWide.{wide_rows}
use Rattle.jsx_emit.proofs.WideRows.{wide_sheet}

-- ---- the sheet of one span

sheet_single : (look : Look) (w : ℕ) (spot : Spot) (sheet : Sheet) → is_single spot ≡ true → SheetFor look w (spot ∷ []) sheet → sheet ≡ single_sheet look.ui_testing w spot
sheet_single look w spot sheet single it =
    plain look w (spot ∷ []) sheet it (ap (λ b. b && true) single)
    ∙ ap (λ b. plain_sheet b sheet.width (spot ∷ [])) it.ui_testing
    ∙ ap (λ n. plain_sheet look.ui_testing n (spot ∷ [])) it.width

one_item : (spot : Spot) (wides : List Wide) → map (λ (it : Wide). it.spot) wides ≡ spot ∷ [] → length wides ≡ 1
one_item spot [] is = cc
one_item spot (it ∷ []) is = refl
one_item spot (it ∷ next ∷ more) is = cc

one_wide : (spot : Spot) (wides : List Wide) → map (λ (it : Wide). it.spot) wides ≡ spot ∷ [] → map (λ (it : Wide). it.depth) wides ≡ 1 ∷ [] → wides ≡ record { spot = spot; depth = 1 } ∷ []
one_wide spot [] is depths = cc
one_wide spot (it ∷ next ∷ more) is depths = cc
one_wide spot (it ∷ []) is depths =
    let same : it.spot ≡ spot = cc in
    let one : it.depth ≡ 1 = cc in
    ap (λ (z : Spot). record { spot = z; depth = it.depth } ∷ []) same ∙ ap (λ n. record { spot = spot; depth = n } ∷ []) one

sheet_wide : (look : Look) (w : ℕ) (spot : Spot) (sheet : Sheet) → is_single spot ≡ false → SheetFor look w (spot ∷ []) sheet → sheet ≡ wide_sheet look.ui_testing w spot
sheet_wide look w spot sheet wide it =
    let only : map (λ (it : Wide). it.spot) sheet.wides ≡ spot ∷ [] = it.wides ∙ ap (λ b. by_lines (cond (not b) (spot ∷ []) [])) wide in
    let depths = it.alone (one_item spot sheet.wides only) in
    let none : sheet.singles ≡ [] = it.singles ∙ ap (λ b. cond b (spot ∷ []) []) wide in
    let one : sheet.depth ≡ 1 = it.depth ∙ ap greatest depths in
    ap (λ b. record { ui_testing = b; width = sheet.width; depth = sheet.depth; singles = sheet.singles; wides = sheet.wides }) it.ui_testing
    ∙ ap (λ n. record { ui_testing = look.ui_testing; width = n; depth = sheet.depth; singles = sheet.singles; wides = sheet.wides }) it.width
    ∙ ap (λ n. record { ui_testing = look.ui_testing; width = w; depth = n; singles = sheet.singles; wides = sheet.wides }) one
    ∙ ap (λ z. record { ui_testing = look.ui_testing; width = w; depth = 1; singles = z; wides = sheet.wides }) none
    ∙ ap (λ z. record { ui_testing = look.ui_testing; width = w; depth = 1; singles = []; wides = z }) (one_wide spot sheet.wides only depths)

-- ---- its lines

some_end : (same : Bool) (e : ℕ) → same ≡ false → cond same true (not (nat_eq e 0)) ≡ true → 0 < e
some_end true e other is = cc
some_end false e other is = grind (arith, nat_tests)

one_line_of : (spot : Spot) → is_single spot ≡ true → spot_lines spot ≡ spot.reach.first.line ∷ []
one_line_of spot is = ap (λ b. cond b (spot.reach.first.line ∷ []) (range_with_len spot.reach.first.line (min (spot.reach.first.line + 4) spot.reach.last.line - spot.reach.first.line) ++ (cond (nat_lt (spot.reach.first.line + 4) (spot.reach.last.line - 1)) ((spot.reach.last.line - 1) ∷ []) [] ++ spot.reach.last.line ∷ []))) is

blocks_told : (look : Look) (w : ℕ) (reach : Reach) (label : Option Text) (sheet : Sheet) (same : Bool) → nat_eq reach.first.line reach.last.line ≡ same → reach.first.line ≤ reach.last.line → (reach.first.line ≡ reach.last.line → reach.first.col_display ≤ reach.last.col_display) → has_end reach ≡ true → IsLabel label → SheetFor look w (sole_spot reach label ∷ []) sheet → map encode_utf8_all (line_blocks sheet reach.first.file (lines_put (spot_lines (sole_spot reach label)) [])) ≡ span_lines look w reach label
blocks_told look w reach label sheet true is le cols ended labelled it =
    let spot = sole_spot reach label in
    let one : spot_lines spot ≡ reach.first.line ∷ [] = one_line_of spot is in
    let line : reach.first.line ≡ reach.last.line = grind (arith, nat_tests) in
    ap (λ (z : Sheet). map encode_utf8_all (line_blocks z reach.first.file (lines_put (spot_lines spot) []))) (sheet_single look w spot sheet is it)
    ∙ ap (λ z. map encode_utf8_all (line_blocks (single_sheet look.ui_testing w spot) reach.first.file (lines_put z []))) one
    ∙ single_rows look w reach label labelled (cols line)
    ∙ sym (ap (λ b. cond b (one_line look w reach label) (several_lines look w reach label)) is)
blocks_told look w reach label sheet false is le cols ended labelled it =
    let spot = sole_spot reach label in
    let less : reach.first.line < reach.last.line = grind (arith, nat_tests) in
    ap (λ (z : Sheet). map encode_utf8_all (line_blocks z reach.first.file (lines_put (spot_lines spot) []))) (sheet_wide look w spot sheet is it)
    ∙ wide_rows look w reach label labelled (some_end (nat_eq reach.first.line reach.last.line) reach.last.col_display is ended) less
    ∙ sym (ap (λ b. cond b (one_line look w reach label) (several_lines look w reach label)) is)

-- ---- its file

put_one : (spot : Spot) (b : Bool) → spots_put (cond b (spot ∷ []) [] ++ by_lines (cond (not b) (spot ∷ []) [])) [] ≡ record { file = spot.file; lines = lines_put (spot_lines spot) [] } ∷ []
put_one spot true = refl
put_one spot false = refl

first_one : (it : ShownFile) (b : Bool) → cond b (it ∷ []) (it ∷ []) ≡ it ∷ []
first_one it true = refl
first_one it false = refl

shown_one : (spot : Spot) (start : ℕ) → primary_first start (shown_files (spot ∷ [])) ≡ record { file = spot.file; lines = lines_put (spot_lines spot) [] } ∷ []
shown_one spot start =
    let it : ShownFile = record { file = spot.file; lines = lines_put (spot_lines spot) [] } in
    ap (primary_first start) (put_one spot (is_single spot)) ∙ first_one it (nat_eq spot.file.start start)

-- ---- the page

plain_bar : (w : ℕ) → Plain (bar_row w)
plain_bar w = plain_both (blanks (w + 1)) (codes "|") (plain_again (w + 1) 32 (omega arith)) (plain_first 124 [] (omega arith))

page_is : (look : Look) (w : ℕ) (reach : Reach) (label : Option Text) (sheet : Sheet) (message : Text) (rows : List (List ℕ)) (text : Text) → IsUtf8 (codes "error: " ++ message) → IsUtf8 (place_line look w reach.first) → reach.first.line ≤ reach.last.line → (reach.first.line ≡ reach.last.line → reach.first.col_display ≤ reach.last.col_display) → has_end reach ≡ true → IsLabel label → SheetFor look w (sole_spot reach label ∷ []) sheet → rows ≡ place_blocks look sheet reach.first (primary_first reach.first.file.start (shown_files (sole_spot reach label ∷ []))) → text ≡ rows_text (chars (codes "error: " ++ message) ∷ rows) → text ≡ page_text (error_lines look w reach message label)
page_is look w reach label sheet message rows text head place le cols ended labelled it rows_are is =
    let spot = sole_spot reach label in
    let blocks = line_blocks sheet reach.first.file (lines_put (spot_lines spot) []) in
    let all : rows ≡ chars (place_line look w reach.first) ∷ bar_row w ∷ blocks =
    rows_are
    ∙ ap (place_blocks look sheet reach.first) (shown_one spot reach.first.file.start)
    ∙ ap (λ z. chars (place_line look sheet.width reach.first) ∷ bar_row sheet.width ∷ z) (append-nil blocks)
    ∙ ap (λ n. chars (place_line look n reach.first) ∷ bar_row n ∷ blocks) it.width in
    is
    ∙ ap (λ z. rows_text (chars (codes "error: " ++ message) ∷ z)) all
    ∙ sym (lines_as_rows (chars (codes "error: " ++ message) ∷ chars (place_line look w reach.first) ∷ bar_row w ∷ blocks))
    ∙ ap (λ z. page_text (z ∷ encode_utf8_all (chars (place_line look w reach.first)) ∷ encode_utf8_all (bar_row w) ∷ map encode_utf8_all blocks)) (encodes-chars (codes "error: " ++ message) head)
    ∙ ap (λ z. page_text ((codes "error: " ++ message) ∷ z ∷ encode_utf8_all (bar_row w) ∷ map encode_utf8_all blocks)) (encodes-chars (place_line look w reach.first) place)
    ∙ ap (λ z. page_text ((codes "error: " ++ message) ∷ place_line look w reach.first ∷ z ∷ map encode_utf8_all blocks)) (plain_bar w)
    ∙ ap (λ z. page_text ((codes "error: " ++ message) ∷ place_line look w reach.first ∷ bar_row w ∷ z)) (blocks_told look w reach label sheet (nat_eq reach.first.line reach.last.line) refl le cols ended labelled it)

-- ---- the only span

abbrev pub AllText : List (Span × Text) → Type 0
AllText [] = Unit {0}
AllText (label ∷ more) = IsUtf8 label.1 × AllText more

pub labels_are_text : (labels : List (Span × String Global)) → AllText (map label_of labels)
labels_are_text [] = tt
labels_are_text (label ∷ more) = (IsUtf8-string_bytes label.1, labels_are_text more)

same_span : (a b : Span) → is_span a b ≡ true → b ≡ a
same_span a b same = search rules

-- the label, and the only spot
abbrev Sole : List File → File → Span → List (Span × Text) → Option Text → Type 0
Sole files file sp labels label = IsLabel label × (spots files (record { primary = sp ∷ []; labels = labels }) ≡ sole_spot (reach_in file sp) label ∷ [])

bare_sole : (files : List File) (file : File) (sp : Span) → held_in files sp ≡ Some file → Sole files file sp [] None
bare_sole files file sp held = (tt, ap (λ o. spot_in o (unlabelled sp) ++ []) held)

labelled_sole : (files : List File) (file : File) (sp : Span) (text : Text) → held_in files sp ≡ Some file → is_span sp sp ≡ true → IsUtf8 text → 0 < length text → Sole files file sp ((sp, text) ∷ []) (Some text)
labelled_sole files file sp text held same utf8 some = (
  (utf8, some),
  ap (λ b. flat_map (λ it. spot_in (held_in files it.span) it) (record { span = sp; is_primary = b || false; label = Some text } ∷ map unlabelled (cond (not (b || false)) (sp ∷ []) []))) same
      ∙ ap (λ o. spot_in o (record { span = sp; is_primary = true; label = Some text }) ++ []) held,
)

one_label : (files : List File) (file : File) (sp l : Span) (text : Text) (label : Option Text) (same some none : Bool) → held_in files sp ≡ Some file → is_span sp l ≡ same → not (nat_eq (length text) 0) ≡ some → IsUtf8 text → cond (same && (some && none)) (Some (Some text)) None ≡ Some label → Sole files file sp ((l, text) ∷ []) label
one_label files file sp l text label false some none held same_is some_is utf8 is = cc
one_label files file sp l text label true false none held same_is some_is utf8 is = cc
one_label files file sp l text label true true false held same_is some_is utf8 is = cc
one_label files file sp l text label true true true held same_is some_is utf8 is =
    let here = same_span sp l same_is in
    let labelled : Some text ≡ label = cc in
    let long : 0 < length text = grind (arith, nat_tests) in
    subst (λ z. Sole files file sp ((l, text) ∷ []) z) labelled
    (subst (λ (z : Span). Sole files file sp ((z, text) ∷ []) (Some text)) (sym here)
    (labelled_sole files file sp text held (subst (λ (z : Span). is_span sp z ≡ true) here same_is) utf8 long))

sole : (files : List File) (file : File) (sp : Span) (labels : List (Span × Text)) (label : Option Text) → AllText labels → held_in files sp ≡ Some file → sole_label sp labels ≡ Some label → Sole files file sp labels label
sole files file sp [] label texts held is =
    let none : None ≡ label = cc in
    subst (λ z. Sole files file sp [] z) none (bare_sole files file sp held)
sole files file sp (l ∷ []) label texts held is = one_label files file sp l.0 l.1 label (is_span sp l.0) (not (nat_eq (length l.1) 0)) (not (list_any (λ b. nat_eq b 10) l.1)) held refl refl texts.0 is
sole files file sp (l ∷ next ∷ more) label texts held is = cc

-- ---- all pages that are told

-- what is known of the rows behind a header
pub record Known (look : Look) (files : List File) (w : ℕ) (message : Text) (spans : Spans) (text : Text) : Type 0 where
  pub head : IsUtf8 (codes "error: " ++ message)
  pub texts : AllText spans.labels
  pub rows : List (List ℕ)
  pub are : RowsOf look w (spots files spans) (primary_place files spans.primary) rows
  pub is : text ≡ rows_text (chars (codes "error: " ++ message) ∷ rows)
  pub place : PlaceIsText look w (primary_place files spans.primary)

told_one : (look : Look) (files : List File) (w : ℕ) (message : Text) (sp : Span) (labels : List (Span × Text)) (text : Text) (file : File) (label : Option Text) → Known look files w message (record { primary = sp ∷ []; labels = labels }) text → held_in files sp ≡ Some file → sole_label sp labels ≡ Some label → has_end (reach_in file sp) ≡ true → text ≡ page_text (error_lines look w (reach_in file sp) message label)
told_one look files w message sp labels text file label it held label_is ended =
    let reach = reach_in file sp in
    let only = sole files file sp labels label it.texts held label_is in
    let rows_are : RowsOf look w (sole_spot reach label ∷ []) (Some (place_in (low sp) file)) it.rows =
    subst (λ o. RowsOf look w (sole_spot reach label ∷ []) (primary_in o sp) it.rows) held
    (subst (λ (z : List Spot). RowsOf look w z (primary_in (held_in files sp) sp) it.rows) only.1 it.are) in
    let place : PlaceIsText look w (Some (place_in (low sp) file)) = subst (λ o. PlaceIsText look w (primary_in o sp)) held it.place in
    page_is look w reach label (sheet_for look w (sole_spot reach label ∷ [])) message it.rows text it.head place (lines_rise file sp) (columns_rise file sp) ended only.0 (for_spots look w (sole_spot reach label ∷ [])) rows_are it.is

at_end : (look : Look) (files : List File) (w : ℕ) (message : Text) (sp : Span) (labels : List (Span × Text)) (text : Text) (file : File) (label : Option Text) (ended : Bool) → Known look files w message (record { primary = sp ∷ []; labels = labels }) text → held_in files sp ≡ Some file → sole_label sp labels ≡ Some label → has_end (reach_in file sp) ≡ ended → IsTold (cond ended (Some (error_lines look w (reach_in file sp) message label)) None) text
at_end look files w message sp labels text file label false it held label_is ended_is = tt
at_end look files w message sp labels text file label true it held label_is ended_is = told_one look files w message sp labels text file label it held label_is ended_is

at_label : (look : Look) (files : List File) (w : ℕ) (message : Text) (sp : Span) (labels : List (Span × Text)) (text : Text) (file : File) (label : Option (Option Text)) → Known look files w message (record { primary = sp ∷ []; labels = labels }) text → held_in files sp ≡ Some file → sole_label sp labels ≡ label → IsTold (told_in look (λ _. w) (Some file) sp message label) text
at_label look files w message sp labels text file None it held label_is = tt
at_label look files w message sp labels text file (Some label) it held label_is = at_end look files w message sp labels text file label (has_end (reach_in file sp)) it held label_is refl

at_file : (look : Look) (files : List File) (w : ℕ) (message : Text) (sp : Span) (labels : List (Span × Text)) (text : Text) (file : Option File) → Known look files w message (record { primary = sp ∷ []; labels = labels }) text → is_dummy sp ≡ false → span_file files sp ≡ file → IsTold (told_in look (λ _. w) file sp message (sole_label sp labels)) text
at_file look files w message sp labels text None it real file_is = tt
at_file look files w message sp labels text (Some file) it real file_is = at_label look files w message sp labels text file (sole_label sp labels) it (ap (λ b. cond b None (span_file files sp)) real ∙ file_is) refl

at_span : (look : Look) (files : List File) (w : ℕ) (message : Text) (sp : Span) (labels : List (Span × Text)) (text : Text) (dummy : Bool) → Known look files w message (record { primary = sp ∷ []; labels = labels }) text → is_dummy sp ≡ dummy → IsTold (told_at look (λ _. w) files (cond dummy None (Some sp)) message (record { primary = sp ∷ []; labels = labels })) text
at_span look files w message sp labels text true it dummy = tt
at_span look files w message sp labels text false it real = at_file look files w message sp labels text (span_file files sp) it real refl

at_spans : (look : Look) (files : List File) (w : ℕ) (message : Text) (primary : List Span) (labels : List (Span × Text)) (text : Text) → Known look files w message (record { primary = primary; labels = labels }) text → IsTold (told_at look (λ _. w) files (sole_span primary) message (record { primary = primary; labels = labels })) text
at_spans look files w message [] labels text it = tt
at_spans look files w message (sp ∷ []) labels text it = at_span look files w message sp labels text (is_dummy sp) it refl
at_spans look files w message (sp ∷ next ∷ more) labels text it = tt

pub rows_told : (look : Look) (files : List File) (w : ℕ) (l : Level) (code : Option Code) (message : Text) (spans : Spans) (rows : List (List ℕ)) (text : Text) → IsUtf8 (header l code message) → AllText spans.labels → RowsOf look w (spots files spans) (primary_place files spans.primary) rows → PlaceIsText look w (primary_place files spans.primary) → text ≡ rows_text (chars (header l code message) ∷ rows) → IsTold (told look (λ _. w) files l code message spans) text
rows_told look files w level.Error None message spans rows text head texts are place is = at_spans look files w message spans.primary spans.labels text (record { head = head; texts = texts; rows = rows; are = are; is = is; place = place })
rows_told look files w level.Error (Some code) message spans rows text head texts are place is = tt
rows_told look files w level.Bug code message spans rows text head texts are place is = tt
rows_told look files w level.Fatal code message spans rows text head texts are place is = tt
rows_told look files w level.PhaseFatal code message spans rows text head texts are place is = tt
rows_told look files w level.Warning code message spans rows text head texts are place is = tt
rows_told look files w level.Note code message spans rows text head texts are place is = tt
rows_told look files w level.Help code message spans rows text head texts are place is = tt
rows_told look files w level.Cancelled code message spans rows text head texts are place is = tt
rows_told look files w level.FailureNote code message spans rows text head texts are place is = tt
