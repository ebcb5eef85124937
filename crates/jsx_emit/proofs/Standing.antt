-- The lines of a report's spans stand in order, each with its marks.
use Rattle.std.proofs.Common.{◌≡◌, ℕ, Bool, not, ◌||◌, cond, nat_eq, List, [], ◌∷◌, ◌++◌, map, refl, ap, sym, ◌∙◌, subst, append_assoc, append-nil}
use Rattle.std.specs.Prelude.{IsTrue}
use Rattle.std.specs.List.{flat_map, list_all}
use Rattle.jsx_base.specs.Files.{File}
use Rattle.jsx_draw.specs.Annotation.{Mark, is_side}
use Rattle.jsx_emit.specs.Page.{Look, line_chars}
use Rattle.jsx_draw.specs.Spots.{ShownFile, ShownLine, Spot, is_single, at_line}
use Rattle.jsx_emit.specs.Shows.{Marked, MarkedAt, Stand}
use Rattle.jsx_emit.specs.Written.{bar_row, grid_chars}
use Rattle.jsx_emit.specs.Sheets.{Sheet, block, file_blocks, first_place, gap, gutter, line_blocks, line_row, other_file, slash_in, under_rows}
use Rattle.jsx_draw.specs.Drawn.{bars_to, marks_in, single_mark}
use Rattle.jsx_emit.proofs.Painting.{marked, plain_under}

-- what all lines are drawn by where each span lies on one line
abbrev pub plain_sheet : Bool → ℕ → List Spot → Sheet
plain_sheet ui w spots = record { ui_testing = ui; width = w; depth = 0; singles = spots; wides = [] }

abbrev pub PlainIf : List Spot → Sheet → Type 0
PlainIf spots sheet = IsTrue (list_all is_single spots) → sheet ≡ plain_sheet sheet.ui_testing sheet.width spots

-- how a page is made that leaves out numbers where the sheet does
abbrev pub look_with : Sheet → Bool → (ℕ → ℕ) → Look
look_with sheet skip offset = record { ui_testing = sheet.ui_testing; skip_filename = skip; offset_line = offset }

-- rows may stand before
pub stand_behind : (look : Look) (w : ℕ) (spots : List Spot) (lines : List ShownLine) (first rest : List (List ℕ)) → Stand look w spots lines rest → Stand look w spots lines (first ++ rest)
stand_behind look w spots [] first rest it = tt
stand_behind look w spots (line ∷ lines) first rest it =
    (first ++ it.0, it.1, it.2, ap (λ z. first ++ z) it.3 ∙ sym (append_assoc first it.0 (it.1 ∷ it.2)), it.4, it.5, it.6)

-- ---- one line

no_slash : (spots : List Spot) (text : List ℕ) → slash_in (map single_mark spots) text ≡ 0
no_slash [] text = refl
no_slash (spot ∷ []) text = refl
no_slash (spot ∷ next ∷ more) text = refl

none_marked : (w : ℕ) (rest : List (List ℕ)) → Marked w [] rest
none_marked w rest = record { underlined = refl; labels = refl }

plain_rows : (w : ℕ) (spots : List Spot) (rest : List (List ℕ)) → Marked w spots (cond (not (nat_eq 0 0) || list_all (λ (mark : Mark). is_side mark.kind) (map single_mark spots)) [] (grid_chars (plain_under w spots)) ++ rest)
plain_rows w [] rest = none_marked w rest
plain_rows w (spot ∷ more) rest = marked w (spot ∷ more) rest

plain_marked : (ui : Bool) (w : ℕ) (spots : List Spot) (at : ShownLine) (rest : List (List ℕ)) → Marked w (at_line at spots) (under_rows (plain_sheet ui w spots) (marks_in spots [] at) (slash_in (marks_in spots [] at) (line_chars at.file at.line)) at ++ rest)
plain_marked ui w spots at rest =
    let here = at_line at spots in
    subst (λ ms. Marked w here (under_rows (plain_sheet ui w spots) ms (slash_in ms (line_chars at.file at.line)) at ++ rest)) (sym (append-nil (map single_mark here)))
    (subst (λ n. Marked w here (under_rows (plain_sheet ui w spots) (map single_mark here) n at ++ rest)) (sym (no_slash here (line_chars at.file at.line)))
    (plain_rows w here rest))

line_marked : (spots : List Spot) (sheet : Sheet) (at : ShownLine) (rest : List (List ℕ)) → PlainIf spots sheet → MarkedAt sheet.width spots at (under_rows sheet (marks_in sheet.singles sheet.wides at) (slash_in (marks_in sheet.singles sheet.wides at) (line_chars at.file at.line)) at ++ rest)
line_marked spots sheet at rest plain =
    λ single. subst (λ (z : Sheet). Marked sheet.width (at_line at spots) (under_rows z (marks_in z.singles z.wides at) (slash_in (marks_in z.singles z.wides at) (line_chars at.file at.line)) at ++ rest)) (sym (plain single)) (plain_marked sheet.ui_testing sheet.width spots at rest)

stand_block : (skip : Bool) (offset : ℕ → ℕ) (spots : List Spot) (sheet : Sheet) (at : ShownLine) (more : List ShownLine) (rest : List (List ℕ)) → PlainIf spots sheet → Stand (look_with sheet skip offset) sheet.width spots more rest → Stand (look_with sheet skip offset) sheet.width spots (at ∷ more) (block sheet at ++ rest)
stand_block skip offset spots sheet at more rest plain it =
    let marks = marks_in sheet.singles sheet.wides at in
    let slash = slash_in marks (line_chars at.file at.line) in
    let under = under_rows sheet marks slash at in (
      [],
      line_row sheet.ui_testing sheet.width sheet.depth (bars_to sheet.wides at) slash at,
      under ++ rest,
      refl,
      record { gutter = gutter sheet.depth (bars_to sheet.wides at) slash (line_chars at.file at.line); is = refl },
      line_marked spots sheet at rest plain,
      stand_behind (look_with sheet skip offset) sheet.width spots more under rest it,
    )

-- ---- files

abbrev in_file : File → ℕ → ShownLine
in_file file line = record { file = file; line = line }

stand_lines : (skip : Bool) (offset : ℕ → ℕ) (spots : List Spot) (sheet : Sheet) (file : File) (lines : List ℕ) (more : List ShownLine) (rest : List (List ℕ)) → PlainIf spots sheet → Stand (look_with sheet skip offset) sheet.width spots more rest → Stand (look_with sheet skip offset) sheet.width spots (map (in_file file) lines ++ more) (line_blocks sheet file lines ++ rest)
stand_lines skip offset spots sheet file [] more rest plain it = it
stand_lines skip offset spots sheet file (line ∷ []) more rest plain it = stand_block skip offset spots sheet (in_file file line) more rest plain it
stand_lines skip offset spots sheet file (line ∷ next ∷ lines) more rest plain it =
    let behind = line_blocks sheet file (next ∷ lines) in
    let between = gap sheet file line next in
    subst (λ rows. Stand (look_with sheet skip offset) sheet.width spots (in_file file line ∷ (map (in_file file) (next ∷ lines) ++ more)) rows)
    (sym (append_assoc (block sheet (in_file file line)) (between ++ behind) rest ∙ ap (λ z. block sheet (in_file file line) ++ z) (append_assoc between behind rest)))
    (stand_block skip offset spots sheet (in_file file line) (map (in_file file) (next ∷ lines) ++ more) (between ++ (behind ++ rest)) plain
    (stand_behind (look_with sheet skip offset) sheet.width spots (map (in_file file) (next ∷ lines) ++ more) between (behind ++ rest)
    (stand_lines skip offset spots sheet file (next ∷ lines) more rest plain it)))

abbrev pub lines_of_files : List ShownFile → List ShownLine
lines_of_files files = flat_map (λ it. map (λ line. record { file = it.file; line = line }) it.lines) files

stand_others : (skip : Bool) (offset : ℕ → ℕ) (spots : List Spot) (sheet : Sheet) (files : List ShownFile) → PlainIf spots sheet → Stand (look_with sheet skip offset) sheet.width spots (lines_of_files files) (flat_map (other_file (look_with sheet skip offset) sheet) files)
stand_others skip offset spots sheet [] plain = tt
stand_others skip offset spots sheet (it ∷ files) plain =
    let begun = first_place (look_with sheet skip offset) sheet it.file it.lines in
    subst (Stand (look_with sheet skip offset) sheet.width spots (lines_of_files (it ∷ files)))
    (sym (append_assoc begun (line_blocks sheet it.file it.lines) (flat_map (other_file (look_with sheet skip offset) sheet) files)))
    (stand_behind (look_with sheet skip offset) sheet.width spots (lines_of_files (it ∷ files)) begun (line_blocks sheet it.file it.lines ++ flat_map (other_file (look_with sheet skip offset) sheet) files)
    (stand_lines skip offset spots sheet it.file it.lines (lines_of_files files) (flat_map (other_file (look_with sheet skip offset) sheet) files) plain (stand_others skip offset spots sheet files plain)))

pub stand_files : (skip : Bool) (offset : ℕ → ℕ) (spots : List Spot) (sheet : Sheet) (files : List ShownFile) → PlainIf spots sheet → Stand (look_with sheet skip offset) sheet.width spots (lines_of_files files) (file_blocks (look_with sheet skip offset) sheet files)
stand_files skip offset spots sheet [] plain = tt
stand_files skip offset spots sheet (it ∷ files) plain =
    stand_behind (look_with sheet skip offset) sheet.width spots (lines_of_files (it ∷ files)) (bar_row sheet.width ∷ []) (line_blocks sheet it.file it.lines ++ flat_map (other_file (look_with sheet skip offset) sheet) files)
    (stand_lines skip offset spots sheet it.file it.lines (lines_of_files files) (flat_map (other_file (look_with sheet skip offset) sheet) files) plain (stand_others skip offset spots sheet files plain))
