-- Whether two reports are equal in every field, as a test.
use Rattle.std.specs.Prelude.{ℕ, ◌+◌, Bool, true, false, not, ◌&&◌, nat_eq}
use Rattle.std.specs.Option.{option_eq}
use Rattle.std.specs.Cmp.Lexicographic.{pointwise}
use Rattle.jsx_base.specs.declared.place.Span.{Span}
use Rattle.jsx_base.specs.MultiSpan.{Spans, is_span}
use Rattle.jsx_diag.specs.declared.level.Level.{Level}
use Rattle.jsx_diag.specs.declared.level.Level.TheVariants.{Bug, Fatal, PhaseFatal, Error, Warning, Note, Help, Cancelled, FailureNote}
use Rattle.jsx_diag.specs.declared.level.Style.{Style}
use Rattle.jsx_diag.specs.declared.level.Style.TheVariants as style
use Rattle.jsx_diag.specs.declared.level.Applicability.{Applicability}
use Rattle.jsx_diag.specs.declared.level.Applicability.TheVariants.{MachineApplicable, HasPlaceholders, MaybeIncorrect, Unspecified}
use Rattle.jsx_diag.specs.Data.{Text, Piece, Edit, Suggestion, Child, Code, ErrorCode, LintCode, Report}

abbrev pub level_number : Level → ℕ
level_number Bug = 0
level_number Fatal = 1
level_number PhaseFatal = 2
level_number Error = 3
level_number Warning = 4
level_number Note = 5
level_number Help = 6
level_number Cancelled = 7
level_number FailureNote = 8

-- the styles that show a level come last
abbrev pub style_number : Style → ℕ
style_number style.MainHeaderMsg = 0
style_number style.HeaderMsg = 1
style_number style.LineAndColumn = 2
style_number style.LineNumber = 3
style_number style.Quotation = 4
style_number style.UnderlinePrimary = 5
style_number style.UnderlineSecondary = 6
style_number style.LabelPrimary = 7
style_number style.LabelSecondary = 8
style_number style.OldSchoolNoteText = 9
style_number style.NoStyle = 10
style_number style.Highlight = 11
style_number (style.Level level) = 12 + level_number level

abbrev pub applicability_number : Applicability → ℕ
applicability_number MachineApplicable = 0
applicability_number HasPlaceholders = 1
applicability_number MaybeIncorrect = 2
applicability_number Unspecified = 3

abbrev pub same_bool : Bool → Bool → Bool
same_bool true b = b
same_bool false b = not b

abbrev pub same_level : Level → Level → Bool
same_level a b = nat_eq (level_number a) (level_number b)

abbrev pub same_text : Text → Text → Bool
same_text = pointwise nat_eq

abbrev pub same_piece : Piece → Piece → Bool
same_piece a b = same_text a.text b.text && nat_eq (style_number a.style) (style_number b.style)

abbrev pub same_label : Span × Text → Span × Text → Bool
same_label a b = is_span a.0 b.0 && same_text a.1 b.1

abbrev pub same_spans : Spans → Spans → Bool
same_spans a b = pointwise is_span a.primary b.primary && pointwise same_label a.labels b.labels

abbrev pub same_code : Code → Code → Bool
same_code (ErrorCode a) (ErrorCode b) = same_text a b
same_code (ErrorCode a) (LintCode b) = false
same_code (LintCode a) (ErrorCode b) = false
same_code (LintCode a) (LintCode b) = same_text a b

abbrev pub same_child : Child → Child → Bool
same_child a b = same_level a.level b.level && pointwise same_piece a.message b.message && same_spans a.span b.span && option_eq same_spans a.render_span b.render_span

abbrev pub same_edit : Edit → Edit → Bool
same_edit a b = is_span a.span b.span && same_text a.snippet b.snippet

abbrev pub same_suggestion : Suggestion → Suggestion → Bool
same_suggestion a b = pointwise (pointwise same_edit) a.substitutions b.substitutions && same_text a.msg b.msg && same_bool a.show_code_when_inline b.show_code_when_inline && nat_eq (applicability_number a.applicability) (applicability_number b.applicability)

abbrev pub same_report : Report → Report → Bool
same_report a b = same_level a.level b.level && pointwise same_piece a.message b.message && option_eq same_code a.code b.code && same_spans a.span b.span && pointwise same_child a.children b.children && pointwise same_suggestion a.suggestions b.suggestions
