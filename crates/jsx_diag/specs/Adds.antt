-- What a call adds to a report.
use Rattle.std.specs.Prelude.{List, [], ◌∷◌, ◌++◌, Option, None, Bool, map, codes, string_bytes}
use Rattle.std.specs.declared.string.String.{String}
use Rattle.std.specs.declared.alloc.Global.{Global}
use Rattle.jsx_base.specs.declared.place.Span.{Span}
use Rattle.jsx_base.specs.MultiSpan.{Spans}
use Rattle.jsx_diag.specs.declared.level.Level.{Level}
use Rattle.jsx_diag.specs.declared.level.Level.TheVariants.{Note}
use Rattle.jsx_diag.specs.declared.level.Style.TheVariants.{NoStyle, Highlight}
use Rattle.jsx_diag.specs.declared.level.Applicability.{Applicability}
use Rattle.jsx_diag.specs.Data.{Text, Piece, Part, Plain, Marked, Edit, Suggestion, Child, Code, Report}

abbrev pub plain_piece : Text → Piece
plain_piece text = record { text = text; style = NoStyle }

abbrev pub marked_piece : Text → Piece
marked_piece text = record { text = text; style = Highlight }

abbrev pub part_piece : Part → Piece
part_piece (Plain text) = plain_piece text
part_piece (Marked text) = marked_piece text

-- no place at all
abbrev pub nowhere : Spans
nowhere = record { primary = []; labels = [] }

-- a note of one plain piece
abbrev pub plain_child : Level → Text → Spans → Option Spans → Child
plain_child level text span shown = record { level = level; message = plain_piece text ∷ []; span = span; render_span = shown }

-- a note of these pieces, that points nowhere
abbrev pub note_of : List Piece → Child
note_of message = record { level = Note; message = message; span = nowhere; render_span = None }

abbrev pub with_child : Report → Child → Report
with_child report child = record report { children = report.children ++ child ∷ [] }

abbrev pub with_label : Report → Span → Text → Report
with_label report span text = record report { span = record report.span { labels = report.span.labels ++ (span, text) ∷ [] } }

abbrev pub edit : Span → Text → Edit
edit span text = record { span = span; snippet = text }

abbrev pub edit_from : Span × String Global → Edit
edit_from part = edit part.0 (string_bytes part.1)

-- one text in place of the span
abbrev pub edits_at : Span → String Global → List Edit
edits_at span text = edit span (string_bytes text) ∷ []

abbrev pub with_suggestion_of : Report → Suggestion → Report
with_suggestion_of report suggestion = record report { suggestions = report.suggestions ++ suggestion ∷ [] }

abbrev pub with_suggestion : Report → List (List Edit) → Text → Bool → Applicability → Report
with_suggestion report ways msg shown how = with_suggestion_of report (record { substitutions = ways; msg = msg; show_code_when_inline = shown; applicability = how })

-- what a trait asks of a method
abbrev pub trait_signature : Text → Text → List Piece
trait_signature name signature = plain_piece (codes "`" ++ name ++ codes "` from trait: `") ∷ marked_piece signature ∷ plain_piece (codes "`") ∷ []

-- what was expected and what was found, on a line each
abbrev pub expected_found : Text → List Part → List Part → Text → Text → List Piece
expected_found label expected found expected_extra found_extra =
    (plain_piece (codes "expected " ++ label ++ codes " `") ∷ [])
    ++ map part_piece expected
    ++ (plain_piece (codes "`" ++ expected_extra ++ codes "\n") ∷ plain_piece (codes "   found " ++ label ++ codes " `") ∷ [])
    ++ map part_piece found
    ++ (plain_piece (codes "`" ++ found_extra) ∷ [])

-- a report of one plain message, which points nowhere
abbrev pub new_report : Level → Option Code → Text → Report
new_report level code message = record { level = level; message = plain_piece message ∷ []; code = code; span = nowhere; children = []; suggestions = [] }

-- with the notes of another report, and its span and code
abbrev pub with_details : Report → Report → Report
with_details report from = record report { children = report.children ++ from.children; span = from.span; code = from.code }
