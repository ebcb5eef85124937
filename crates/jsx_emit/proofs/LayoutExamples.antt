-- Headers, shown lines, places of labels, notes and labels of suggestions, computed.
use Rattle.std.specs.Prelude.{◌≡◌, ℕ, List, [], ◌∷◌, Option, Some, None, Bool, true, false, codes, map, refl}
use Rattle.std.specs.Str.{chars}
use Rattle.jsx_base.specs.declared.place.Span.{Span}
use Rattle.jsx_base.specs.FileName.{RealName}
use Rattle.jsx_base.specs.Files.{File, Place}
use Rattle.jsx_diag.specs.declared.level.Level.TheVariants.{Bug, Error, Warning, Note, Cancelled, FailureNote}
use Rattle.jsx_diag.specs.declared.level.Applicability.TheVariants.{Unspecified}
use Rattle.jsx_diag.specs.Data.{Text, ErrorCode, LintCode, Suggestion}
use Rattle.jsx_emit.specs.Layout.{header, placed, may_mark, note_lines, words_from, trimmed, inline}
use Rattle.jsx_draw.specs.Spots.{Spot, spot_lines, shown_lines}

-- ---- headers

error_header : header Error None (codes "m") ≡ codes "error: m"
error_header = refl

code_in_brackets : header Error (Some (ErrorCode (codes "E1"))) (codes "m") ≡ codes "error[E1]: m"
code_in_brackets = refl

lint_code_is_not_shown : header Warning (Some (LintCode (codes "l"))) (codes "m") ≡ codes "warning: m"
lint_code_is_not_shown = refl

bug_header : header Bug None (codes "m") ≡ codes "error: internal compiler error: m"
bug_header = refl

failure_note_has_no_word : header FailureNote None (codes "m") ≡ codes "m"
failure_note_has_no_word = refl

cancelled_has_no_word : header Cancelled None (codes "m") ≡ codes "m"
cancelled_has_no_word = refl

empty_message : header Error None [] ≡ codes "error: "
empty_message = refl

-- ---- spans

file : ℕ → File
file start = record { name = RealName (codes "x.js"); text = []; start = start }

at : ℕ → ℕ → ℕ → Place
unfolding file
at start line col = record { file = file start; line = line; col = col; col_display = col }

-- a span in the file that begins at `start`
span : ℕ → ℕ → ℕ → ℕ → ℕ → Option Text → Spot
unfolding file at
span start first begin last end label = record { file = file start; reach = record { first = at start first begin; last = at start last end }; is_primary = true; label = label }

lines_of_one : spot_lines (span 1 3 0 3 4 None) ≡ 3 ∷ []
unfolding span file at
lines_of_one = refl

lines_of_two : spot_lines (span 1 3 0 4 4 None) ≡ 3 ∷ 4 ∷ []
unfolding span file at
lines_of_two = refl

lines_of_six : spot_lines (span 1 1 0 6 1 None) ≡ 1 ∷ 2 ∷ 3 ∷ 4 ∷ 6 ∷ []
unfolding span file at
lines_of_six = refl

lines_of_seven : spot_lines (span 1 1 0 7 1 None) ≡ 1 ∷ 2 ∷ 3 ∷ 4 ∷ 6 ∷ 7 ∷ []
unfolding span file at
lines_of_seven = refl

lines_of_eight : spot_lines (span 1 1 0 8 1 None) ≡ 1 ∷ 2 ∷ 3 ∷ 4 ∷ 7 ∷ 8 ∷ []
unfolding span file at
lines_of_eight = refl

shown : ℕ → List Spot → List (ℕ × ℕ)
unfolding file at
shown start spots = map (λ it. (it.file.start, it.line)) (shown_lines start spots)

-- each line once, by rising number
lines_in_order : shown 1 (span 1 5 0 5 1 None ∷ span 1 2 0 2 1 None ∷ span 1 5 3 5 4 None ∷ []) ≡ (1, 2) ∷ (1, 5) ∷ []
unfolding shown span file at
lines_in_order = refl

-- spans on one line come before those over several
single_lines_first : shown 9 (span 1 1 0 2 1 None ∷ span 9 4 0 4 1 None ∷ []) ≡ (9, 4) ∷ (1, 1) ∷ (1, 2) ∷ []
unfolding shown span file at
single_lines_first = refl

-- the primary file changes places with the first
primary_file_first : shown 20 (span 1 1 0 1 1 None ∷ span 9 2 0 2 1 None ∷ span 20 3 0 3 1 None ∷ []) ≡ (20, 3) ∷ (9, 2) ∷ (1, 1) ∷ []
unfolding shown span file at
primary_file_first = refl

-- ---- labels

rows : List Spot → List (ℕ × ℕ)
unfolding file at
rows spots = map (λ it. (it.spot.reach.first.col_display, it.row)) (placed spots)

on : ℕ → ℕ → Option Text → Spot
unfolding span file at
on begin end label = span 1 1 begin 1 end label

-- one label stands behind its span
label_alone : rows (on 4 5 (Some (codes "x")) ∷ []) ≡ (4, 0) ∷ []
unfolding rows on span file at
label_alone = refl

-- a label that would reach the next span with a label stands below
label_in_the_way : rows (on 0 1 (Some (codes "label")) ∷ on 4 5 (Some (codes "y")) ∷ []) ≡ (4, 0) ∷ (0, 1) ∷ []
unfolding rows on span file at
label_in_the_way = refl

-- two that are far apart stand in one row
labels_apart : rows (on 0 1 (Some (codes "x")) ∷ on 9 10 (Some (codes "y")) ∷ []) ≡ (9, 0) ∷ (0, 0) ∷ []
unfolding rows on span file at
labels_apart = refl

-- a label beside a span without one
label_beside_bare : rows (on 0 1 (Some (codes "x")) ∷ on 4 5 None ∷ []) ≡ (4, 0) ∷ (0, 0) ∷ []
unfolding rows on span file at
label_beside_bare = refl

-- a span within a labelled one
label_of_inner : rows (on 0 9 None ∷ on 3 5 (Some (codes "x")) ∷ []) ≡ (3, 1) ∷ (0, 1) ∷ []
unfolding rows on span file at
label_of_inner = refl

labels_of_both : rows (on 0 9 (Some (codes "a")) ∷ on 3 5 (Some (codes "b")) ∷ []) ≡ (3, 1) ∷ (0, 2) ∷ []
unfolding rows on span file at
labels_of_both = refl

-- an empty label is none
empty_label_takes_no_row : rows (on 0 9 (Some []) ∷ on 3 5 (Some []) ∷ []) ≡ (3, 0) ∷ (0, 0) ∷ []
unfolding rows on span file at
empty_label_takes_no_row = refl

-- ---- marks

secondary : Spot → Spot
secondary spot = record spot { is_primary = false }

-- the shortest span decides
shortest_decides : may_mark 3 (on 0 9 None ∷ secondary (on 3 5 None) ∷ []) 45 ≡ true
unfolding secondary on span file at
shortest_decides = refl

longer_does_not : may_mark 3 (on 0 9 None ∷ secondary (on 3 5 None) ∷ []) 94 ≡ false
unfolding secondary on span file at
longer_does_not = refl

beside_it : may_mark 6 (on 0 9 None ∷ secondary (on 3 5 None) ∷ []) 94 ≡ true
unfolding secondary on span file at
beside_it = refl

not_covered : may_mark 9 (on 0 9 None ∷ []) 94 ≡ false
unfolding on span file at
not_covered = refl

-- ---- notes

note_line : note_lines 1 Note (codes "n") ≡ codes "  = note: n" ∷ []
note_line = refl

note_of_two_lines : note_lines 2 Note (codes "a\nb") ≡ codes "   = note: a" ∷ codes "           b" ∷ []
note_of_two_lines = refl

note_without_word : note_lines 1 FailureNote (codes "n") ≡ codes "  = n" ∷ []
note_without_word = refl

-- ---- suggestions

sp : Span
sp = record { lo = record { 0 = 1 }; hi = record { 0 = 2 } }

ways : List Text → Text → Bool → Suggestion
ways texts msg shown = record { substitutions = map (λ text. record { span = sp; snippet = text } ∷ []) texts; msg = msg; show_code_when_inline = shown; applicability = Unspecified }

code_inline : inline (ways (codes " b " ∷ []) (codes "use") true ∷ []) ≡ Some (sp, codes "help: use: `b`")
unfolding ways sp chars lib.Utf8.encode
code_inline = refl

code_hidden : inline (ways (codes "b" ∷ []) (codes "use") false ∷ []) ≡ Some (sp, codes "help: use")
unfolding ways sp chars lib.Utf8.encode
code_hidden = refl

removal_inline : inline (ways (codes " " ∷ []) (codes "remove this") true ∷ []) ≡ Some (sp, codes "help: remove this")
unfolding ways sp chars lib.Utf8.encode
removal_inline = refl

two_ways_stand_apart : inline (ways (codes "b" ∷ codes "c" ∷ []) (codes "use") true ∷ []) ≡ None
unfolding ways sp chars lib.Utf8.encode
two_ways_stand_apart = refl

two_suggestions_stand_apart : inline (ways (codes "b" ∷ []) (codes "use") true ∷ ways (codes "b" ∷ []) (codes "use") true ∷ []) ≡ None
unfolding ways sp chars lib.Utf8.encode
two_suggestions_stand_apart = refl

lines_stand_apart : inline (ways (codes "b\n" ∷ []) (codes "use") true ∷ []) ≡ None
unfolding ways sp chars lib.Utf8.encode
lines_stand_apart = refl

nine_words : words_from false (codes " a b c  d e f g h i ") ≡ 9
nine_words = refl

ten_words_stand_apart : inline (ways (codes "b" ∷ []) (codes "a b c d e f g h i j") true ∷ []) ≡ None
unfolding ways sp chars lib.Utf8.encode
ten_words_stand_apart = refl

trimmed_at_both_ends : trimmed (codes " \ta b\n") ≡ codes "a b"
trimmed_at_both_ends = refl
