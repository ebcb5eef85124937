-- When a text is a page of a report. What isn't said here of a page may be drawn in any way.
use Rattle.std.specs.Prelude.{◌≡◌, ℕ, ◌+◌, List, [], ◌∷◌, ◌++◌, Option, Some, None, Bool, false, not, cond, ◌||◌, nat_eq, length, map, codes, IsTrue, slice_get, MatchOption}
use Rattle.std.specs.Bool.{MatchBool}
use Rattle.std.specs.List.{list_all, range_with_len}
use Rattle.std.specs.Option.{unwrap_or, option_map, option_eq}
use Rattle.std.specs.Str.{chars}
use Rattle.jsx_base.specs.declared.place.Span.{Span}
use Rattle.jsx_base.specs.Files.{File, Place}
use Rattle.jsx_base.specs.MultiSpan.{Spans}
use Rattle.jsx_diag.specs.declared.level.Level.{Level}
use Rattle.jsx_diag.specs.Level.{is_failure_level}
use Rattle.jsx_diag.specs.Data.{Text, Code, Suggestion, Child, Report}
use Rattle.jsx_emit.specs.Page.{Look, blanks, number, number_width, line_chars, place_line, spaced, page_text, rows_text, message_text, told, page}
use Rattle.jsx_emit.specs.Sheets.{RowsOf}
use Rattle.jsx_emit.specs.Written.{suggestion_rows}
use Rattle.jsx_emit.specs.Layout.{header, place_before, last_line_of, Placed, placed, is_covered, may_mark, label_row, label_col, label_chars, may_be_hidden, has_no_span, note_lines, pointed, apart}
use Rattle.jsx_draw.specs.Spots.{Spot, spots, is_single, primary_place, ShownLine, shown_lines, end_col, greatest, at_line}

-- the files, the span that stands for one that a macro made, and the line that stands for one of a documentation comment
pub record Map : Type 0 where
  pub files : List File
  pub call_span : Span → Span
  pub offset_line : ℕ → ℕ

-- how an emitter is set
pub record Setting : Type 0 where
  pub map : Option Map
  pub short : Bool
  pub ui_testing : Bool
  pub skip_filename : Bool

abbrev pub look_of : Setting → (ℕ → ℕ) → Look
look_of set offset = record { ui_testing = set.ui_testing; skip_filename = set.skip_filename; offset_line = offset }

-- ---- rows

abbrev pub cell_at : List (List ℕ) → ℕ → ℕ → Option ℕ
cell_at rows row col = slice_get (unwrap_or (slice_get rows row) []) col

-- a row shows a line: its number, a bar, and its text behind cells of which nothing is said
pub record ShowsLine (look : Look) (w : ℕ) (it : ShownLine) (row : List ℕ) : Type 0 where
  pub gutter : List ℕ
  pub is : row ≡ number look w it.line ++ (codes " |" ++ (gutter ++ line_chars it.file it.line))

abbrev pub is_some_of : (ℕ → Bool) → Option ℕ → Bool
is_some_of test None = false
is_some_of test (Some c) = test c

-- where a span covers a column, the cell in the row under the line has the mark of a shortest one
abbrev pub is_marked : ℕ → List Spot → List (List ℕ) → ℕ → Bool
is_marked w spots under col = not (is_covered col spots) || is_some_of (may_mark col spots) (cell_at under 0 (w + 3 + col))

-- the column behind the last span
abbrev pub columns : List Spot → ℕ
columns spots = greatest (map end_col spots)

-- a cell of a label has its character, unless an underline or another label may cover it
abbrev pub has_cell : ℕ → List Spot → List (List ℕ) → Placed → ℕ → Bool
has_cell w spots under it k =
    may_be_hidden (label_row it) (label_col it + k) spots
    || option_eq nat_eq (cell_at under (label_row it) (w + 3 + (label_col it + k))) (slice_get (label_chars it) k)

abbrev pub has_label : ℕ → List Spot → List (List ℕ) → Placed → Bool
has_label w spots under it = list_all (has_cell w spots under it) (range_with_len 0 (length (label_chars it)))

pub record Marked (w : ℕ) (spots : List Spot) (under : List (List ℕ)) : Type 0 where
  pub underlined : IsTrue (list_all (is_marked w spots under) (range_with_len 0 (columns spots)))
  pub labels : IsTrue (list_all (has_label w spots under) (placed spots))

-- where each span lies on one line, the spans of this line are marked under it
abbrev pub MarkedAt : ℕ → List Spot → ShownLine → List (List ℕ) → Type 0
MarkedAt w spots it under = IsTrue (list_all is_single spots) → Marked w (at_line it spots) under

-- the lines stand in order, each with the marks of its spans
abbrev pub Stand : Look → ℕ → List Spot → List ShownLine → List (List ℕ) → Type 0
Stand look w spots [] rows = Unit {0}
Stand look w spots (it ∷ more) rows =
    (before : List (List ℕ)) × (row : List ℕ) × (under : List (List ℕ))
    × (rows ≡ before ++ row ∷ under) × ShowsLine look w it row × MarkedAt w spots it under × Stand look w spots more under

-- ---- the part of a report's own

-- behind the header: nothing where the first primary span is in no file, else its place and the lines
abbrev pub Behind : Look → ℕ → List Spot → Option Place → List (List ℕ) → Type 0
Behind look w spots None rows = rows ≡ []
Behind look w spots (Some place) rows =
    (more : List (List ℕ)) × (rows ≡ chars (place_line look w place) ∷ more) × Stand look w spots (shown_lines place.file.start spots) more

-- the lines are those that are told, where they are
abbrev pub IsTold : Option (List Text) → Text → Type 0
IsTold told text = MatchOption told (Unit {0}) (λ lines. text ≡ page_text lines)

pub record OwnPart (look : Look) (files : List File) (w : ℕ) (level : Level) (code : Option Code) (message : Text) (spans : Spans) (text : Text) : Type 0 where
  pub told : IsTold (told look (λ _. w) files level code message spans) text
  pub rows : List (List ℕ)
  pub is : text ≡ rows_text (chars (header level code message) ∷ rows)
  pub drawn : RowsOf look w (spots files spans) (primary_place files spans.primary) rows
  pub behind : Behind look w (spots files spans) (primary_place files spans.primary) rows

-- what a text lacks at its end where the LF is left out
abbrev pub end_of : Bool → Text
end_of is_out = cond is_out (10 ∷ []) []

-- ---- the parts of notes

-- the spans that a note shows
abbrev pub note_spans : Child → Spans
note_spans it = unwrap_or it.render_span it.span

-- a note that points nowhere stands behind `=`, another as a report without code
abbrev pub EndedPart : Look → List File → ℕ → Child → Text → Type 0
EndedPart look files w it text =
    MatchBool (has_no_span (note_spans it))
    (text ≡ page_text (note_lines w it.level (message_text it.message)))
    (OwnPart look files w it.level None (message_text it.message) (note_spans it) text)

-- a failure note lacks the LF at its end
abbrev pub NotePart : Look → List File → ℕ → Child → Text → Type 0
NotePart look files w it text = EndedPart look files w it (text ++ end_of (is_failure_level it.level))

-- ---- the parts of suggestions

-- a suggestion that stands apart is told row by row
abbrev pub SuggestionPart : Bool → List File → ℕ → Suggestion → Text → Type 0
SuggestionPart ui_testing files w it text = text ≡ rows_text (suggestion_rows ui_testing files w it)

-- ---- the whole

-- texts of which each stands for its item
abbrev pub Each : {X : Type 0} → (X → Text → Type 0) → List X → Text → Type 0
Each Part [] text = text ≡ []
Each Part (it ∷ more) text = (first : Text) × (rest : Text) × (text ≡ first ++ rest) × Part it first × Each Part more rest

-- the line between a report and its notes, without LF behind a failure note
abbrev pub before_notes : Bool → ℕ → List Child → Text
before_notes is_out w [] = []
before_notes is_out w (it ∷ more) = blanks (w + 1) ++ cond is_out (codes "|") (codes "|\n")

-- the width of the numbers of a report's lines
abbrev pub report_width : Look → List File → Report → ℕ
report_width look files report = number_width look (last_line_of files (pointed report) report.children)

-- its own part, which of a failure note lacks the LF at its end, its notes, its suggestions, and an empty line
pub record Whole (look : Look) (files : List File) (report : Report) (text : Text) : Type 0 where
  pub own : Text
  pub notes : Text
  pub suggestions : Text
  pub is : text ≡ own ++ (before_notes (is_failure_level report.level) (report_width look files report) report.children ++ (notes ++ (suggestions ++ 10 ∷ [])))
  pub own_part : OwnPart look files (report_width look files report) report.level report.code (message_text report.message) (pointed report) (own ++ end_of (is_failure_level report.level))
  pub note_parts : Each (NotePart look files (report_width look files report)) report.children notes
  pub suggestion_parts : Each (SuggestionPart look.ui_testing files (report_width look files report)) (apart report) suggestions

-- the header comes first
pub record Headed (report : Report) (text : Text) : Type 0 where
  pub rest : Text
  pub is : text ≡ spaced (header report.level report.code (message_text report.message)) ++ rest

-- the page is the one that is told line by line, where that is
abbrev pub IsPage : Look → List File → Report → Text → Type 0
IsPage look files report text = MatchOption (page look files report) (Unit {0}) (λ page. text ≡ page)

pub record Long (look : Look) (files : List File) (report : Report) (text : Text) : Type 0 where
  pub page : IsPage look files report text
  pub headed : Headed report text
  pub whole : Whole look files report text

-- ---- without files

-- a note without files: behind `=` where it points nowhere, else its header
abbrev pub EndedBare : ℕ → Child → Text → Type 0
EndedBare w it text =
    MatchBool (has_no_span (note_spans it))
    (text ≡ page_text (note_lines w it.level (message_text it.message)))
    (text ≡ spaced (header it.level None (message_text it.message)) ++ 10 ∷ [])

abbrev pub BareNote : ℕ → Child → Text → Type 0
BareNote w it text = EndedBare w it (text ++ end_of (is_failure_level it.level))

-- the header, the notes, and an empty line: without files no suggestion is shown
pub record Bare (w : ℕ) (report : Report) (text : Text) : Type 0 where
  pub own : Text
  pub notes : Text
  pub is : text ≡ own ++ (before_notes (is_failure_level report.level) w report.children ++ (notes ++ 10 ∷ []))
  pub own_part : own ++ end_of (is_failure_level report.level) ≡ spaced (header report.level report.code (message_text report.message)) ++ 10 ∷ []
  pub note_parts : Each (BareNote w) report.children notes

pub record LongBare (look : Look) (report : Report) (text : Text) : Type 0 where
  pub headed : Headed report text
  pub whole : Bare (number_width look 0) report text

-- ---- any page

-- the header alone, behind the place where there is one
abbrev pub short_text : Look → Option Place → Report → Text
short_text look place report =
    spaced (unwrap_or (option_map (place_before look) place) [] ++ header report.level report.code (message_text report.message)) ++ 10 ∷ []

abbrev pub id_line : ℕ → ℕ
id_line line = line

abbrev pub ShowsOver : Setting → Option Map → Report → Text → Type 0
ShowsOver set None report text =
    MatchBool set.short (text ≡ short_text (look_of set id_line) None report) (LongBare (look_of set id_line) report text)
ShowsOver set (Some map) report text =
    ((sp : Span) → map.call_span sp ≡ sp)
    → MatchBool set.short
    (text ≡ short_text (look_of set map.offset_line) (primary_place map.files (pointed report).primary) report)
    (Long (look_of set map.offset_line) map.files report text)

-- a text is a page of a report; over a map that moves spans each text is, and `Called` says more
abbrev pub Shows : Setting → Report → Text → Type 0
Shows set report text = ShowsOver set set.map report text
