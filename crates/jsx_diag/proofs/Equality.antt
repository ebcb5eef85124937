-- What `==` says of two records: whether clients see the same.
use Rattle.std.proofs.Common.{◌≡◌, Bool, ◌&&◌, List, [], ◌∷◌, map, Option, Some, None, refl, ap, rules, arith}
use Rattle.std.specs.Bool.{Decides}
use Rattle.std.specs.Option.{option_map, option_eq}
use Rattle.std.specs.Cmp.Lexicographic.{pointwise}
use Rattle.std.specs.String.{string_eq}
use Rattle.std.proofs.lemmas.Slice.Eq.{slice_eq-Decides}
use Rattle.std.proofs.lemmas.Option.{same_Some}
use Rattle.jsx_diag.specs.declared.suggestion.SubstitutionPart.{SubstitutionPart}
use Rattle.jsx_diag.specs.declared.suggestion.Substitution.{Substitution}
use Rattle.jsx_diag.specs.declared.suggestion.CodeSuggestion.{CodeSuggestion}
use Rattle.std.specs.declared.string.String.{String}
use Rattle.std.specs.declared.alloc.Global.{Global}
use Rattle.jsx_base.specs.declared.place.Span.{Span}
use Rattle.jsx_base.specs.declared.multi_span.MultiSpan.{MultiSpan}
use Rattle.jsx_base.specs.MultiSpan.{label_of, spans_of}
use Rattle.jsx_base.specs.contracts.place.SpanPartialEq.TheImpl as span
use Rattle.jsx_base.specs.contracts.multi_span.MultiSpanPartialEq.TheImpl as spans
use Rattle.jsx_diag.specs.declared.message.Message.{Message}
use Rattle.jsx_diag.specs.declared.message.StringPart.{StringPart}
use Rattle.jsx_diag.specs.declared.message.StringPart.TheVariants.{Normal, Highlighted}
use Rattle.jsx_diag.specs.declared.message.DiagnosticStyledString.{DiagnosticStyledString}
use Rattle.jsx_diag.specs.declared.sub_diagnostic.SubDiagnostic.{SubDiagnostic}
use Rattle.jsx_diag.specs.declared.diagnostic.DiagnosticId.{DiagnosticId}
use Rattle.jsx_diag.specs.declared.diagnostic.DiagnosticId.TheVariants.{Error, Lint}
use Rattle.jsx_diag.specs.declared.diagnostic.Diagnostic.{Diagnostic}
use Rattle.jsx_diag.specs.Data.{piece_of, part_of, parts_of, edit_of, edits_of, suggestion_of, child_of, code_of, report_of}
use Rattle.jsx_diag.specs.contracts.suggestion.SubstitutionPartPartialEq.TheImpl as part
use Rattle.jsx_diag.specs.contracts.suggestion.SubstitutionPartialEq.TheImpl as substitution
use Rattle.jsx_diag.specs.contracts.suggestion.CodeSuggestionPartialEq.TheImpl as suggestion
use Rattle.jsx_diag.specs.contracts.message.MessagePartialEq.TheImpl as message
use Rattle.jsx_diag.specs.contracts.message.StringPartPartialEq.TheImpl as string_part
use Rattle.jsx_diag.specs.contracts.message.DiagnosticStyledStringPartialEq.TheImpl as styled
use Rattle.jsx_diag.specs.contracts.sub_diagnostic.SubDiagnosticPartialEq.TheImpl as child
use Rattle.jsx_diag.specs.contracts.diagnostic.DiagnosticIdPartialEq.TheImpl as code
use Rattle.jsx_diag.specs.contracts.diagnostic.DiagnosticPartialEq.TheImpl as report

-- a test of the elements that decides what is seen of them decides what is seen of the lists
pub decides_list : {X Y : Type 0} (E : X → X → Bool) (f : X → Y) → ((a b : X) → Decides (E a b) (f a ≡ f b)) → (xs ys : List X) → Decides (pointwise E xs ys) (map f xs ≡ map f ys)
decides_list E f d [] [] = (λ _. refl, λ _. refl)
decides_list E f d [] (y ∷ ys) = (λ t. cc, λ h. cc)
decides_list E f d (x ∷ xs) [] = (λ t. cc, λ h. cc)
decides_list E f d (x ∷ xs) (y ∷ ys) =
    let heads = d x y in
    let rest = decides_list E f d xs ys in
    (λ t. grind (arith, heads.0, rest.0), λ h. grind (arith, heads.1, rest.1))

pub decides_option : {X Y : Type 0} (E : X → X → Bool) (f : X → Y) → ((a b : X) → Decides (E a b) (f a ≡ f b)) → (x y : Option X) → Decides (option_eq E x y) (option_map f x ≡ option_map f y)
decides_option E f d None None = (λ _. refl, λ _. refl)
decides_option E f d None (Some y) = (λ t. cc, λ h. cc)
decides_option E f d (Some x) None = (λ t. cc, λ h. cc)
decides_option E f d (Some x) (Some y) = let same = d x y in (λ t. ap Some (same.0 t), λ h. same.1 (same_Some _ _ h))

pub part_decides : (a b : SubstitutionPart) → Decides (part.eq-value.it a b) (edit_of a ≡ edit_of b)
part_decides a b = (λ t. search rules, λ h. search rules)

pub substitution_decides : (a b : Substitution) → Decides (substitution.eq-value.it a b) (edits_of a ≡ edits_of b)
substitution_decides a b = decides_list part.eq-value.it edit_of part_decides a.parts.items b.parts.items

pub suggestion_decides : (a b : CodeSuggestion) → Decides (suggestion.eq-value.it a b) (suggestion_of a ≡ suggestion_of b)
suggestion_decides a b = let ways = decides_list substitution.eq-value.it edits_of substitution_decides a.substitutions.items b.substitutions.items in (λ t. search rules, λ h. search rules)

pub message_decides : (a b : Message) → Decides (message.eq-value.it a b) (piece_of a ≡ piece_of b)
message_decides a b = (λ t. search rules, λ h. search rules)

pub string_part_decides : (a b : StringPart) → Decides (string_part.eq-value.it a b) (part_of a ≡ part_of b)
string_part_decides (Normal a) (Normal b) = (λ t. search rules, λ h. search rules)
string_part_decides (Normal a) (Highlighted b) = (λ t. cc, λ h. cc)
string_part_decides (Highlighted a) (Normal b) = (λ t. cc, λ h. cc)
string_part_decides (Highlighted a) (Highlighted b) = (λ t. search rules, λ h. search rules)

pub styled_decides : (a b : DiagnosticStyledString) → Decides (styled.eq-value.it a b) (parts_of a ≡ parts_of b)
styled_decides a b = decides_list string_part.eq-value.it part_of string_part_decides a.0.items b.0.items

pub span_decides : (a b : Span) → Decides (span.eq-value.it a b) (a ≡ b)
span_decides a b = (λ t. search rules, λ h. search rules)

pub label_decides : (a b : Span × String Global) → Decides (span.eq-value.it a.0 b.0 && string_eq a.1 b.1) (label_of a ≡ label_of b)
label_decides a b = (λ t. search rules, λ h. search rules)

pub spans_decides : (a b : MultiSpan) → Decides (spans.eq-value.it a b) (spans_of a ≡ spans_of b)
spans_decides a b =
    let primary = slice_eq-Decides {E = span.eq-value.it} span_decides a.primary_spans.items b.primary_spans.items _ refl in
    let labels = decides_list (λ x y. span.eq-value.it x.0 y.0 && string_eq x.1 y.1) label_of label_decides a.span_labels.items b.span_labels.items in
    (λ t. search rules, λ h. search rules)

pub code_decides : (a b : DiagnosticId) → Decides (code.eq-value.it a b) (code_of a ≡ code_of b)
code_decides (Error a) (Error b) = (λ t. search rules, λ h. search rules)
code_decides (Error a) (Lint b) = (λ t. cc, λ h. cc)
code_decides (Lint a) (Error b) = (λ t. cc, λ h. cc)
code_decides (Lint a) (Lint b) = (λ t. search rules, λ h. search rules)

pub child_decides : (a b : SubDiagnostic) → Decides (child.eq-value.it a b) (child_of a ≡ child_of b)
child_decides a b =
    let message = decides_list message.eq-value.it piece_of message_decides a.message.items b.message.items in
    let span = spans_decides a.span b.span in
    let shown = decides_option spans.eq-value.it spans_of spans_decides a.render_span b.render_span in
    (λ t. search rules, λ h. search rules)

pub report_decides : (a b : Diagnostic) → Decides (report.eq-value.it a b) (report_of a ≡ report_of b)
report_decides a b =
    let message = decides_list message.eq-value.it piece_of message_decides a.message.items b.message.items in
    let span = spans_decides a.span b.span in
    let children = decides_list child.eq-value.it child_of child_decides a.children.items b.children.items in
    let suggestions = decides_list suggestion.eq-value.it suggestion_of suggestion_decides a.suggestions.items b.suggestions.items in
    let kind = decides_option code.eq-value.it code_of code_decides a.code b.code in
    (λ t. search rules, λ h. search rules)
