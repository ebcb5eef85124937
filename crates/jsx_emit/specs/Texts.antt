-- Texts that a page is made of.
use Rattle.std.specs.Prelude.{◌≡◌, ◌<◌, ◌+◌, ℕ, List, [], ◌∷◌, ◌++◌, Option, Some, None, Bool, false, not, ◌||◌, cond, nat_eq, codes, decimal, length, map}
use Rattle.std.specs.List.{flat_map, list_any}
use Rattle.std.specs.Str.{IsUtf8, chars}
use Rattle.jsx_base.specs.declared.place.Span.{Span}
use Rattle.jsx_base.specs.Files.{File, Place, place_in}
use Rattle.jsx_base.specs.MultiSpan.{Spans, is_span, replaced, replaced_label}
use Rattle.jsx_base.specs.SpanPlaces.{high, shown}
use Rattle.jsx_diag.specs.declared.level.Level.{Level}
use Rattle.jsx_diag.specs.declared.level.Level.TheVariants.{Note}
use Rattle.jsx_diag.specs.declared.level.Style.TheVariants.{NoStyle}
use Rattle.jsx_diag.specs.Level.{shown_text}
use Rattle.jsx_diag.specs.Data.{Text, Child, Report}
use Rattle.jsx_draw.specs.Grid.{Run}
use Rattle.jsx_emit.specs.Layout.{apart, colon, last_line_of, pointed}
use Rattle.jsx_draw.specs.Spots.{primary_place}
use Rattle.jsx_emit.specs.Page.{Look, blanks, spaced}
use Rattle.jsx_emit.specs.Shows.{Map, id_line, short_text}

-- a text with a tab, what stands before the first, and behind it
pub record Tabbed (text front behind : Text) : Type 0 where
  pub shown : spaced text ≡ front ++ (blanks 4 ++ spaced behind)
  pub shorter : length behind < length text
  pub is_text : IsUtf8 behind

-- the characters of runs, one after another
abbrev pub run_chars : List Run → List ℕ
run_chars runs = flat_map (λ run. run.text) runs

-- LF, and n blanks
abbrev pub line_break : ℕ → Text
line_break n = 10 ∷ blanks n

-- a text with its tabs as four blanks, and n blanks before each line but the first
abbrev pub hanging : ℕ → Text → Text
hanging n text = flat_map (λ b. cond (nat_eq b 10) (line_break n) (spaced (b ∷ []))) text

-- a text with LF, what stands before the first, and behind it
pub record Lined (text line behind : Text) : Type 0 where
  pub shown : (n : ℕ) → hanging n text ≡ spaced line ++ (line_break n ++ hanging n behind)
  pub shorter : length behind < length text
  pub is_text : IsUtf8 behind

-- what stands before the message of a note that points nowhere
abbrev pub before_note : ℕ → Level → Text
before_note w level = blanks (w + 1) ++ (codes "= " ++ (shown_text level ++ colon (shown_text level)))

-- `name:line:column`, where a line is shown as another
abbrev pub place_text : (ℕ → ℕ) → Place → Text
place_text offset_line place = shown place.file.name ++ (codes ":" ++ (decimal (offset_line place.line) ++ (codes ":" ++ decimal (place.col + 1))))

-- a place before a header, if there is one
abbrev pub before_place : (ℕ → ℕ) → Option Place → Text
before_place offset_line None = []
before_place offset_line (Some place) = place_text offset_line place ++ codes ": "

-- what stands before the header of a report that points at these spans
abbrev pub before_header : Option Map → List Span → Text
before_header None primary = []
before_header (Some map) primary = before_place map.offset_line (primary_place map.files primary)

-- nothing is left out
abbrev pub whole_look : (ℕ → ℕ) → Look
whole_look offset_line = record { ui_testing = false; skip_filename = false; offset_line = offset_line }

-- the short page of a report over these files, if there are any
abbrev pub short_page : Option Map → Report → Text
short_page None report = short_text (whole_look id_line) None report
short_page (Some map) report = short_text (whole_look map.offset_line) (primary_place map.files report.span.primary) report

-- a text's first character, and the text behind it
pub record Follows (text : Text) (c : ℕ) (rest : Text) : Type 0 where
  pub chars_are : chars text ≡ c ∷ chars rest
  pub shorter : length rest < length text
  pub is_text : IsUtf8 rest

-- no span stands for another
abbrev pub MovesNone : (Span → Span) → Type 0
MovesNone call_span = (sp : Span) → call_span sp ≡ sp

abbrev pub MovesNoneOf : Option Map → Type 0
MovesNoneOf None = Unit {0}
MovesNoneOf (Some map) = MovesNone map.call_span

-- where P holds the two are the same
pub record SameIf {X : Type 0} (P : Type 0) (x y : X) : Type 0 where
  pub same : P → x ≡ y

-- a report with the label that its suggestion becomes, or the suggestions that stand apart
abbrev pub shown_report : Report → Report
shown_report report = record report { span = pointed report; suggestions = apart report }

-- the line in which a span ends in a file
abbrev pub end_in : Span → Option File → ℕ
end_in sp None = 0
end_in sp (Some file) = (place_in (high sp) file).line

-- the greatest line in which a span of a report or its notes ends, or 0 without files
abbrev pub last_line_over : Option (List File) → Spans → List Child → ℕ
last_line_over None spans children = 0
last_line_over (Some files) spans children = last_line_of files spans children

-- what says that spans stand for those of a macro
unfoldable pub macro_text : Text
macro_text = codes "this error originates in a macro outside of the current crate (in Nightly builds, run with -Z external-macro-backtrace for more info)"

abbrev pub macro_note : Child
macro_note = record { level = Note; message = record { text = macro_text; style = NoStyle } ∷ []; span = record { primary = []; labels = [] }; render_span = None }

-- ---- spans that are shown in place of those of macros

abbrev pub moves : (Span → Span) → Span → Bool
moves call sp = not (is_span sp (call sp))

-- the span that is shown in place of one, wherever that stands
abbrev pub put_call : (Span → Span) → Span → Spans → Spans
put_call call sp spans = cond (moves call sp) (record { primary = map (replaced sp (call sp)) spans.primary; labels = map (replaced_label sp (call sp)) spans.labels }) spans

abbrev pub put_calls : (Span → Span) → List Span → Spans → Spans
put_calls call [] spans = spans
put_calls call (sp ∷ more) spans = put_calls call more (put_call call sp spans)

-- for each primary span
abbrev pub called_spans : (Span → Span) → Spans → Spans
called_spans call spans = put_calls call spans.primary spans

abbrev pub called_note : (Span → Span) → Child → Child
called_note call it = record it { span = called_spans call it.span }

abbrev pub some_move : (Span → Span) → Spans → Bool
some_move call spans = list_any (moves call) spans.primary

abbrev pub note_moves : (Span → Span) → Child → Bool
note_moves call it = some_move call it.span

-- whether a primary span of a report or of a note moves
abbrev pub report_moves : (Span → Span) → Report → Bool
report_moves call report = some_move call report.span || list_any (note_moves call) report.children

-- a report whose spans have moved, without a note
abbrev pub called : (Span → Span) → Report → Report
called call report = record report { span = called_spans call report.span; children = map (called_note call) report.children }

-- with a note, where one has
abbrev pub called_with_note : (Span → Span) → Report → Report
called_with_note call report = record report { span = called_spans call report.span; children = map (called_note call) report.children ++ cond (report_moves call report) (macro_note ∷ []) [] }

-- a report as it is shown: unless there are no files, or all calls are shown
abbrev pub called_over : Option (Span → Span) → Bool → Report → Report
called_over None backtrace report = report
called_over (Some call) backtrace report = cond backtrace report (called_with_note call report)
