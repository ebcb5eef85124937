-- The part of a report or a note of its own.
use Rattle.std.proofs.lemmas.List.{length-map}
use Rattle.std.proofs.Common.{◌≡◌, ℕ, Bool, true, false, not, ◌&&◌, cond, List, [], ◌∷◌, ◌++◌, Option, Some, None, map, filter, codes, refl, ap, sym, ◌∙◌, subst, append-nil, length, arith}
use Rattle.std.specs.Prelude.{string_bytes}
use Rattle.std.specs.List.{list_all}
use Rattle.std.specs.Option.{option_map}
use Rattle.std.specs.Str.{IsUtf8, chars, is_utf8}
use Rattle.std.proofs.lemmas.Str.{IsUtf8-append, IsUtf8-nil, IsUtf8-string_bytes, IsUtf8-from_is_utf8}
use Rattle.jsx_base.specs.Files.{Place}
use Rattle.jsx_diag.specs.declared.level.Level.{Level}
use Rattle.jsx_diag.specs.declared.level.Level.TheVariants as level
use Rattle.jsx_diag.specs.declared.diagnostic.DiagnosticId.{DiagnosticId}
use Rattle.jsx_diag.specs.declared.diagnostic.DiagnosticId.TheVariants.{Error, Lint}
use Rattle.jsx_diag.specs.declared.message.Message.{Message}
use Rattle.jsx_diag.specs.Level.{shown_text}
use Rattle.jsx_diag.specs.Data.{Text, code_of, piece_of}
use Rattle.jsx_emit.specs.Page.{Look, message_text, spaced, rows_text}
use Rattle.jsx_draw.specs.Spots.{ShownFile, Spot, by_lines, greatest, is_single, primary_first, shown_files, spots}
use Rattle.jsx_emit.specs.Layout.{code_text, colon, header}
use Rattle.jsx_emit.specs.Shows.{Behind, Stand}
use Rattle.jsx_emit.specs.Sheets.{RowsOf, Sheet, file_blocks, sheet_for}
use Rattle.jsx_draw.specs.Drawn.{side_by_side}
use Rattle.jsx_draw.proofs.Sides.{alone, spots_kept}
use Rattle.jsx_draw.specs.Drawn.{Wide}
use Rattle.jsx_emit.proofs.Rows.{spaced_text}
use Rattle.jsx_emit.proofs.Standing.{PlainIf, lines_of_files, look_with, stand_files}

-- ---- headers are text

ascii_word : (l : Level) → is_utf8 (shown_text l ++ []) ≡ true
unfolding is_utf8 chars lib.Utf8.encode
ascii_word level.Bug = refl
ascii_word level.Fatal = refl
ascii_word level.PhaseFatal = refl
ascii_word level.Error = refl
ascii_word level.Warning = refl
ascii_word level.Note = refl
ascii_word level.Help = refl
ascii_word level.Cancelled = refl
ascii_word level.FailureNote = refl

word_text : (l : Level) → IsUtf8 (shown_text l)
word_text l = IsUtf8-from_is_utf8 (shown_text l) (ap is_utf8 (sym (append-nil (shown_text l))) ∙ ascii_word l)

bracket_text : is_utf8 (codes "[") ≡ true
unfolding is_utf8 chars lib.Utf8.encode
bracket_text = refl

end_text : is_utf8 (codes "]") ≡ true
unfolding is_utf8 chars lib.Utf8.encode
end_text = refl

colon_text : is_utf8 (codes ": ") ≡ true
unfolding is_utf8 chars lib.Utf8.encode
colon_text = refl

code_is_text : (code : Option DiagnosticId) → IsUtf8 (code_text (option_map code_of code))
code_is_text None = IsUtf8-nil
code_is_text (Some (Error text)) = IsUtf8-append (codes "[") (string_bytes text ++ codes "]") (IsUtf8-from_is_utf8 (codes "[") bracket_text) (IsUtf8-append (string_bytes text) (codes "]") (IsUtf8-string_bytes text) (IsUtf8-from_is_utf8 (codes "]") end_text))
code_is_text (Some (Lint text)) = IsUtf8-nil

colon_is_text : (word : Text) → IsUtf8 (colon word)
colon_is_text [] = IsUtf8-nil
colon_is_text (b ∷ word) = IsUtf8-from_is_utf8 (codes ": ") colon_text

message_is_text : (message : List Message) → IsUtf8 (message_text (map piece_of message))
message_is_text [] = IsUtf8-nil
message_is_text (it ∷ more) = IsUtf8-append (string_bytes it.0) (message_text (map piece_of more)) (IsUtf8-string_bytes it.0) (message_is_text more)

pub header_is_text : (l : Level) (code : Option DiagnosticId) (message : List Message) → IsUtf8 (header l (option_map code_of code) (message_text (map piece_of message)))
header_is_text l code message =
    IsUtf8-append (shown_text l) (code_text (option_map code_of code) ++ (colon (shown_text l) ++ message_text (map piece_of message))) (word_text l)
    (IsUtf8-append (code_text (option_map code_of code)) (colon (shown_text l) ++ message_text (map piece_of message)) (code_is_text code)
    (IsUtf8-append (colon (shown_text l)) (message_text (map piece_of message)) (colon_is_text (shown_text l)) (message_is_text message)))

-- ---- the lines behind a header

and_parts : (a b : Bool) → (a && b) ≡ true → (a ≡ true) × (b ≡ true)
and_parts true b e = (refl, e)
and_parts false b e = cc

all_stay : (spots : List Spot) → list_all is_single spots ≡ true → filter is_single spots ≡ spots
all_stay [] e = refl
all_stay (spot ∷ more) e =
    let parts = and_parts (is_single spot) (list_all is_single more) e in
    ap (λ b. cond b (spot ∷ filter is_single more) (filter is_single more)) parts.0 ∙ ap (λ z. spot ∷ z) (all_stay more parts.1)

none_wide : (spots : List Spot) → list_all is_single spots ≡ true → filter (λ spot. not (is_single spot)) spots ≡ []
none_wide [] e = refl
none_wide (spot ∷ more) e =
    let parts = and_parts (is_single spot) (list_all is_single more) e in
    ap (λ b. cond (not b) (spot ∷ filter (λ spot. not (is_single spot)) more) (filter (λ spot. not (is_single spot)) more)) parts.0 ∙ none_wide more parts.1

no_items : (wides : List Wide) → map (λ (it : Wide). it.spot) wides ≡ [] → wides ≡ []
no_items [] e = refl
no_items (it ∷ wides) e = cc

-- what is so of what lines are drawn by
pub record SheetFor (look : Look) (w : ℕ) (spots : List Spot) (sheet : Sheet) : Type 0 where
  pub ui_testing : sheet.ui_testing ≡ look.ui_testing
  pub width : sheet.width ≡ w
  pub singles : sheet.singles ≡ filter is_single spots
  pub wides : map (λ it. it.spot) sheet.wides ≡ by_lines (filter (λ spot. not (is_single spot)) spots)
  pub depth : sheet.depth ≡ greatest (map (λ it. it.depth) sheet.wides)
  pub alone : length sheet.wides ≡ 1 → map (λ it. it.depth) sheet.wides ≡ 1 ∷ []

alone_if : (lines : List Spot) → length (side_by_side lines) ≡ 1 → map (λ (it : Wide). it.depth) (side_by_side lines) ≡ 1 ∷ []
alone_if [] one = cc
alone_if (spot ∷ []) one = ap (map (λ (it : Wide). it.depth)) (alone spot)
alone_if (spot ∷ next ∷ more) one =
    let long : length (spot ∷ next ∷ more) ≡ 1 = ap (λ (z : List Spot). length z) (sym (spots_kept (spot ∷ next ∷ more))) ∙ length-map (side_by_side (spot ∷ next ∷ more)) (λ (it : Wide). it.spot) ∙ one in
    absurd (let no : ⊥ = omega (arith, long) in no)

pub for_spots : (look : Look) (w : ℕ) (spots : List Spot) → SheetFor look w spots (sheet_for look w spots)
for_spots look w spots = record { ui_testing = refl; width = refl; singles = refl; wides = spots_kept (by_lines (filter (λ spot. not (is_single spot)) spots)); depth = refl; alone = alone_if (by_lines (filter (λ spot. not (is_single spot)) spots)) }

pub plain : (look : Look) (w : ℕ) (spots : List Spot) (sheet : Sheet) → SheetFor look w spots sheet → PlainIf spots sheet
plain look w spots sheet it = λ single.
    let none : sheet.wides ≡ [] = no_items sheet.wides (it.wides ∙ ap by_lines (none_wide spots single)) in
    let flat : sheet.depth ≡ 0 = it.depth ∙ ap (λ (z : List Wide). greatest (map (λ (it : Wide). it.depth) z)) none in
    let all : sheet.singles ≡ spots = it.singles ∙ all_stay spots single in
    ap (λ n. record { ui_testing = sheet.ui_testing; width = sheet.width; depth = n; singles = sheet.singles; wides = sheet.wides }) flat
    ∙ ap (λ z. record { ui_testing = sheet.ui_testing; width = sheet.width; depth = 0; singles = z; wides = sheet.wides }) all
    ∙ ap (λ z. record { ui_testing = sheet.ui_testing; width = sheet.width; depth = 0; singles = spots; wides = z }) none

same_look : (look : Look) (w : ℕ) (spots : List Spot) (sheet : Sheet) → SheetFor look w spots sheet → look_with sheet look.skip_filename look.offset_line ≡ look
same_look look w spots sheet it = ap (λ b. record { ui_testing = b; skip_filename = look.skip_filename; offset_line = look.offset_line }) it.ui_testing

stands : (look : Look) (w : ℕ) (spots : List Spot) (sheet : Sheet) (files : List ShownFile) → SheetFor look w spots sheet → Stand look w spots (lines_of_files files) (file_blocks look sheet files)
stands look w spots sheet files it =
    subst (λ (z : Look). Stand z w spots (lines_of_files files) (file_blocks z sheet files)) (same_look look w spots sheet it)
    (subst (λ n. Stand (look_with sheet look.skip_filename look.offset_line) n spots (lines_of_files files) (file_blocks (look_with sheet look.skip_filename look.offset_line) sheet files)) it.width
    (stand_files look.skip_filename look.offset_line spots sheet files (plain look w spots sheet it)))

pub behind_of : (look : Look) (w : ℕ) (spots : List Spot) (place : Option Place) (rows : List (List ℕ)) → RowsOf look w spots place rows → Behind look w spots place rows
behind_of look w spots None rows it = it
behind_of look w spots (Some place) rows it = (
  file_blocks look (sheet_for look w spots) (primary_first place.file.start (shown_files spots)),
  it,
  stands look w spots (sheet_for look w spots) (primary_first place.file.start (shown_files spots)) (for_spots look w spots),
)

pub headed_rows : (text header new : Text) (rows : List (List ℕ)) → IsUtf8 header → text ≡ spaced header ++ 10 ∷ [] → new ≡ text ++ rows_text rows → new ≡ rows_text (chars header ∷ rows)
headed_rows text header new rows utf8 begins is =
    is ∙ ap (λ z. z ++ rows_text rows) begins ∙ ap (λ z. (z ++ 10 ∷ []) ++ rows_text rows) (sym (spaced_text header utf8))
