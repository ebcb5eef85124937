-- What clients see of the records of a report: the bytes of each text, the elements of each vector, and all other fields as they are.
use Rattle.std.specs.Prelude.{ℕ, List, Option, Bool, map, string_bytes, option_map}
use Rattle.jsx_base.specs.declared.place.Span.{Span}
use Rattle.jsx_base.specs.MultiSpan.{Spans, spans_of}
use Rattle.jsx_diag.specs.declared.level.Level.{Level}
use Rattle.jsx_diag.specs.declared.level.Style.{Style}
use Rattle.jsx_diag.specs.declared.level.Applicability.{Applicability}
use Rattle.jsx_diag.specs.declared.message.Message.{Message}
use Rattle.jsx_diag.specs.declared.message.StringPart.{StringPart}
use Rattle.jsx_diag.specs.declared.message.StringPart.TheVariants.{Normal, Highlighted}
use Rattle.jsx_diag.specs.declared.message.DiagnosticStyledString.{DiagnosticStyledString}
use Rattle.jsx_diag.specs.declared.suggestion.SubstitutionPart.{SubstitutionPart}
use Rattle.jsx_diag.specs.declared.suggestion.Substitution.{Substitution}
use Rattle.jsx_diag.specs.declared.suggestion.CodeSuggestion.{CodeSuggestion}
use Rattle.jsx_diag.specs.declared.sub_diagnostic.SubDiagnostic.{SubDiagnostic}
use Rattle.jsx_diag.specs.declared.diagnostic.DiagnosticId.{DiagnosticId}
use Rattle.jsx_diag.specs.declared.diagnostic.DiagnosticId.TheVariants.{Error, Lint}
use Rattle.jsx_diag.specs.declared.diagnostic.Diagnostic.{Diagnostic}

-- a text is its bytes
abbrev pub Text : Type 0
Text = List ℕ

-- a piece of a message
pub record Piece : Type 0 where
  pub text : Text
  pub style : Style

abbrev pub piece_of : Message → Piece
piece_of it = record { text = string_bytes it.0; style = it.1 }

pub data Part : Type 0 where
  Plain : Text → Part
  Marked : Text → Part

abbrev pub part_of : StringPart → Part
part_of (Normal text) = Plain (string_bytes text)
part_of (Highlighted text) = Marked (string_bytes text)

abbrev pub parts_of : DiagnosticStyledString → List Part
parts_of it = map part_of it.0.items

abbrev pub part_text : Part → Text
part_text (Plain text) = text
part_text (Marked text) = text

-- what to write in place of a span
pub record Edit : Type 0 where
  pub span : Span
  pub snippet : Text

abbrev pub edit_of : SubstitutionPart → Edit
edit_of it = record { span = it.span; snippet = string_bytes it.snippet }

abbrev pub edits_of : Substitution → List Edit
edits_of it = map edit_of it.parts.items

-- each substitution is one way to do what the suggestion says
pub record Suggestion : Type 0 where
  pub substitutions : List (List Edit)
  pub msg : Text
  pub show_code_when_inline : Bool
  pub applicability : Applicability

abbrev pub suggestion_of : CodeSuggestion → Suggestion
suggestion_of it = record { substitutions = map edits_of it.substitutions.items; msg = string_bytes it.msg; show_code_when_inline = it.show_code_when_inline; applicability = it.applicability }

pub record Child : Type 0 where
  pub level : Level
  pub message : List Piece
  pub span : Spans
  pub render_span : Option Spans

abbrev pub child_of : SubDiagnostic → Child
child_of it = record { level = it.level; message = map piece_of it.message.items; span = spans_of it.span; render_span = option_map spans_of it.render_span }

pub data Code : Type 0 where
  ErrorCode : Text → Code
  LintCode : Text → Code

abbrev pub code_of : DiagnosticId → Code
code_of (Error text) = ErrorCode (string_bytes text)
code_of (Lint text) = LintCode (string_bytes text)

pub record Report : Type 0 where
  pub level : Level
  pub message : List Piece
  pub code : Option Code
  pub span : Spans
  pub children : List Child
  pub suggestions : List Suggestion

abbrev pub report_of : Diagnostic → Report
report_of it = record { level = it.level; message = map piece_of it.message.items; code = option_map code_of it.code; span = spans_of it.span; children = map child_of it.children.items; suggestions = map suggestion_of it.suggestions.items }
