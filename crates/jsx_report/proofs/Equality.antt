-- The tests of `specs/Same.antt` decide equality, and the code's `==` gives the same answers.
use Rattle.std.proofs.Common.{◌≡◌, ℕ, Bool, true, false, ◌&&◌, List, [], ◌∷◌, map, Option, Some, None, nat_eq, zero, suc, refl, sym, ap, true≢false, ◌∙◌, rules}
use Rattle.std.specs.Bool.{Decides}
use Rattle.std.specs.Option.{option_eq}
use Rattle.std.specs.List.{list_any}
use Rattle.std.specs.Cmp.Lexicographic.{pointwise, pointwise_decides}
use Rattle.std.proofs.lemmas.Option.{same_Some}
use Rattle.jsx_base.specs.declared.place.Span.{Span}
use Rattle.jsx_base.specs.MultiSpan.{Spans, is_span}
use Rattle.jsx_diag.specs.declared.level.Level.{Level}
use Rattle.jsx_diag.specs.declared.level.Level.TheVariants.{Bug, Fatal, PhaseFatal, Error, Warning, Note, Help, Cancelled, FailureNote}
use Rattle.jsx_diag.specs.declared.level.Style.{Style}
use Rattle.jsx_diag.specs.declared.level.Style.TheVariants as style
use Rattle.jsx_diag.specs.declared.level.Applicability.{Applicability}
use Rattle.jsx_diag.specs.declared.level.Applicability.TheVariants.{MachineApplicable, HasPlaceholders, MaybeIncorrect, Unspecified}
use Rattle.jsx_diag.specs.declared.diagnostic.DiagnosticId.{DiagnosticId}
use Rattle.jsx_diag.specs.declared.diagnostic.Diagnostic.{Diagnostic}
use Rattle.jsx_diag.specs.Data.{Text, Piece, Edit, Suggestion, Child, Code, ErrorCode, LintCode, Report, code_of, report_of}
use Rattle.jsx_diag.specs.contracts.diagnostic.DiagnosticIdPartialEq.TheImpl as code
use Rattle.jsx_diag.specs.contracts.diagnostic.DiagnosticPartialEq.TheImpl as report
use Rattle.jsx_diag.proofs.Equality.{report_decides, code_decides}
use Rattle.jsx_report.specs.Same.{level_number, style_number, applicability_number, same_bool, same_level, same_text, same_piece, same_label, same_spans, same_code, same_child, same_edit, same_suggestion, same_report}
use Rattle.jsx_report.specs.Books.{knows_report, knows_code}

abbrev level_at : ℕ → Level
level_at zero = Bug
level_at (suc zero) = Fatal
level_at (suc (suc zero)) = PhaseFatal
level_at (suc (suc (suc zero))) = Error
level_at (suc (suc (suc (suc zero)))) = Warning
level_at (suc (suc (suc (suc (suc zero))))) = Note
level_at (suc (suc (suc (suc (suc (suc zero)))))) = Help
level_at (suc (suc (suc (suc (suc (suc (suc zero))))))) = Cancelled
level_at (suc (suc (suc (suc (suc (suc (suc (suc n)))))))) = FailureNote

level_back : (level : Level) → level_at (level_number level) ≡ level
level_back Bug = refl
level_back Fatal = refl
level_back PhaseFatal = refl
level_back Error = refl
level_back Warning = refl
level_back Note = refl
level_back Help = refl
level_back Cancelled = refl
level_back FailureNote = refl

abbrev style_at : ℕ → Style
style_at zero = style.MainHeaderMsg
style_at (suc zero) = style.HeaderMsg
style_at (suc (suc zero)) = style.LineAndColumn
style_at (suc (suc (suc zero))) = style.LineNumber
style_at (suc (suc (suc (suc zero)))) = style.Quotation
style_at (suc (suc (suc (suc (suc zero))))) = style.UnderlinePrimary
style_at (suc (suc (suc (suc (suc (suc zero)))))) = style.UnderlineSecondary
style_at (suc (suc (suc (suc (suc (suc (suc zero))))))) = style.LabelPrimary
style_at (suc (suc (suc (suc (suc (suc (suc (suc zero)))))))) = style.LabelSecondary
style_at (suc (suc (suc (suc (suc (suc (suc (suc (suc zero))))))))) = style.OldSchoolNoteText
style_at (suc (suc (suc (suc (suc (suc (suc (suc (suc (suc zero)))))))))) = style.NoStyle
style_at (suc (suc (suc (suc (suc (suc (suc (suc (suc (suc (suc zero))))))))))) = style.Highlight
style_at (suc (suc (suc (suc (suc (suc (suc (suc (suc (suc (suc (suc n)))))))))))) = style.Level (level_at n)

style_back : (it : Style) → style_at (style_number it) ≡ it
style_back style.MainHeaderMsg = refl
style_back style.HeaderMsg = refl
style_back style.LineAndColumn = refl
style_back style.LineNumber = refl
style_back style.Quotation = refl
style_back style.UnderlinePrimary = refl
style_back style.UnderlineSecondary = refl
style_back style.LabelPrimary = refl
style_back style.LabelSecondary = refl
style_back style.OldSchoolNoteText = refl
style_back style.NoStyle = refl
style_back style.Highlight = refl
style_back (style.Level Bug) = refl
style_back (style.Level Fatal) = refl
style_back (style.Level PhaseFatal) = refl
style_back (style.Level Error) = refl
style_back (style.Level Warning) = refl
style_back (style.Level Note) = refl
style_back (style.Level Help) = refl
style_back (style.Level Cancelled) = refl
style_back (style.Level FailureNote) = refl

abbrev applicability_at : ℕ → Applicability
applicability_at zero = MachineApplicable
applicability_at (suc zero) = HasPlaceholders
applicability_at (suc (suc zero)) = MaybeIncorrect
applicability_at (suc (suc (suc n))) = Unspecified

applicability_back : (it : Applicability) → applicability_at (applicability_number it) ≡ it
applicability_back MachineApplicable = refl
applicability_back HasPlaceholders = refl
applicability_back MaybeIncorrect = refl
applicability_back Unspecified = refl

nat_decides : (a b : ℕ) → Decides (nat_eq a b) (a ≡ b)
nat_decides a b = (λ t. search rules, λ h. search rules)

-- numbers that lead back to what they number decide it
number_decides : {X : Type 0} (number : X → ℕ) (back : ℕ → X) → ((x : X) → back (number x) ≡ x) → (a b : X) → Decides (nat_eq (number a) (number b)) (a ≡ b)
number_decides number back leads a b =
    let d = nat_decides (number a) (number b) in
    (λ t. sym (leads a) ∙ ap back (d.0 t) ∙ leads b, λ h. d.1 (ap number h))

level_decides : (a b : Level) → Decides (same_level a b) (a ≡ b)
level_decides = number_decides level_number level_at level_back

style_decides : (a b : Style) → Decides (nat_eq (style_number a) (style_number b)) (a ≡ b)
style_decides = number_decides style_number style_at style_back

applicability_decides : (a b : Applicability) → Decides (nat_eq (applicability_number a) (applicability_number b)) (a ≡ b)
applicability_decides = number_decides applicability_number applicability_at applicability_back

bool_decides : (a b : Bool) → Decides (same_bool a b) (a ≡ b)
bool_decides true true = (λ _. refl, λ _. refl)
bool_decides true false = (λ t. cc, λ h. cc)
bool_decides false true = (λ t. cc, λ h. cc)
bool_decides false false = (λ _. refl, λ _. refl)

option_decides : {X : Type 0} (E : X → X → Bool) → ((a b : X) → Decides (E a b) (a ≡ b)) → (x y : Option X) → Decides (option_eq E x y) (x ≡ y)
option_decides E d None None = (λ _. refl, λ _. refl)
option_decides E d None (Some y) = (λ t. cc, λ h. cc)
option_decides E d (Some x) None = (λ t. cc, λ h. cc)
option_decides E d (Some x) (Some y) = let same = d x y in (λ t. ap Some (same.0 t), λ h. same.1 (same_Some _ _ h))

-- two tests together decide both facts
both : {P Q : Type 0} (p q : Bool) → Decides p P → Decides q Q → Decides (p && q) (P × Q)
both true true d e = (λ _. (d.0 refl, e.0 refl), λ _. refl)
both true false d e = (λ t. absurd (true≢false (sym t)), λ h. e.1 h.1)
both false true d e = (λ t. absurd (true≢false (sym t)), λ h. d.1 h.0)
both false false d e = (λ t. absurd (true≢false (sym t)), λ h. d.1 h.0)

-- a test of one fact decides another that is as much
decides_by : {P Q : Type 0} (p : Bool) → Decides p P → (P → Q) → (Q → P) → Decides p Q
decides_by p d f g = (λ t. f (d.0 t), λ h. d.1 (g h))

text_decides : (a b : Text) → Decides (same_text a b) (a ≡ b)
text_decides = pointwise_decides {E = nat_eq} nat_decides

span_decides : (a b : Span) → Decides (is_span a b) (a ≡ b)
span_decides a b = (λ t. search rules, λ h. search rules)

piece_decides : (a b : Piece) → Decides (same_piece a b) (a ≡ b)
piece_decides a b =
    decides_by _ (both _ _ (text_decides a.text b.text) (style_decides a.style b.style)) (λ (h : (a.text ≡ b.text) × (a.style ≡ b.style)). let t : a.text ≡ b.text = h.0 in let s : a.style ≡ b.style = h.1 in search rules) (λ h. (ap (λ (x : Piece). x.text) h, ap (λ (x : Piece). x.style) h))

label_decides : (a b : Span × Text) → Decides (same_label a b) (a ≡ b)
label_decides a b =
    let span = span_decides a.0 b.0 in
    let text = text_decides a.1 b.1 in
    (λ t. search rules, λ h. search rules)

spans_decides : (a b : Spans) → Decides (same_spans a b) (a ≡ b)
spans_decides a b =
    let primary = pointwise_decides {E = is_span} span_decides a.primary b.primary in
    let labels = pointwise_decides {E = same_label} label_decides a.labels b.labels in
    (λ t. search rules, λ h. search rules)

pub same_code_decides : (a b : Code) → Decides (same_code a b) (a ≡ b)
same_code_decides (ErrorCode a) (ErrorCode b) = let text = text_decides a b in (λ t. search rules, λ h. search rules)
same_code_decides (ErrorCode a) (LintCode b) = (λ t. cc, λ h. cc)
same_code_decides (LintCode a) (ErrorCode b) = (λ t. cc, λ h. cc)
same_code_decides (LintCode a) (LintCode b) = let text = text_decides a b in (λ t. search rules, λ h. search rules)

child_is : (a b : Child) → a.level ≡ b.level → a.message ≡ b.message → a.span ≡ b.span → a.render_span ≡ b.render_span → a ≡ b
child_is a b level message span shown = search rules

child_decides : (a b : Child) → Decides (same_child a b) (a ≡ b)
child_decides a b =
    let level = level_decides a.level b.level in
    let message = pointwise_decides {E = same_piece} piece_decides a.message b.message in
    let span = spans_decides a.span b.span in
    let shown = option_decides same_spans spans_decides a.render_span b.render_span in
    decides_by _ (both _ _ (both _ _ (both _ _ level message) span) shown)
    (λ h. child_is a b h.0.0.0 h.0.0.1 h.0.1 h.1)
    (λ h. (((ap (λ (x : Child). x.level) h, ap (λ (x : Child). x.message) h), ap (λ (x : Child). x.span) h), ap (λ (x : Child). x.render_span) h))

edit_decides : (a b : Edit) → Decides (same_edit a b) (a ≡ b)
edit_decides a b =
    let span = span_decides a.span b.span in
    let text = text_decides a.snippet b.snippet in
    (λ t. search rules, λ h. search rules)

suggestion_is : (a b : Suggestion) → a.substitutions ≡ b.substitutions → a.msg ≡ b.msg → a.show_code_when_inline ≡ b.show_code_when_inline → a.applicability ≡ b.applicability → a ≡ b
suggestion_is a b ways text shown sure = search rules

suggestion_decides : (a b : Suggestion) → Decides (same_suggestion a b) (a ≡ b)
suggestion_decides a b =
    let ways = pointwise_decides {E = pointwise same_edit} (pointwise_decides {E = same_edit} edit_decides) a.substitutions b.substitutions in
    let text = text_decides a.msg b.msg in
    let shown = bool_decides a.show_code_when_inline b.show_code_when_inline in
    let sure = applicability_decides a.applicability b.applicability in
    decides_by _ (both _ _ (both _ _ (both _ _ ways text) shown) sure)
    (λ h. suggestion_is a b h.0.0.0 h.0.0.1 h.0.1 h.1)
    (λ h. (((ap (λ (x : Suggestion). x.substitutions) h, ap (λ (x : Suggestion). x.msg) h), ap (λ (x : Suggestion). x.show_code_when_inline) h), ap (λ (x : Suggestion). x.applicability) h))

report_is : (a b : Report) → a.level ≡ b.level → a.message ≡ b.message → a.code ≡ b.code → a.span ≡ b.span → a.children ≡ b.children → a.suggestions ≡ b.suggestions → a ≡ b
report_is a b level message kind span children suggestions = search rules

pub same_report_decides : (a b : Report) → Decides (same_report a b) (a ≡ b)
same_report_decides a b =
    let level = level_decides a.level b.level in
    let message = pointwise_decides {E = same_piece} piece_decides a.message b.message in
    let kind = option_decides same_code same_code_decides a.code b.code in
    let span = spans_decides a.span b.span in
    let children = pointwise_decides {E = same_child} child_decides a.children b.children in
    let suggestions = pointwise_decides {E = same_suggestion} suggestion_decides a.suggestions b.suggestions in
    decides_by _ (both _ _ (both _ _ (both _ _ (both _ _ (both _ _ level message) kind) span) children) suggestions)
    (λ h. report_is a b h.0.0.0.0.0 h.0.0.0.0.1 h.0.0.0.1 h.0.0.1 h.0.1 h.1)
    (λ h. (((((ap (λ (x : Report). x.level) h, ap (λ (x : Report). x.message) h), ap (λ (x : Report). x.code) h), ap (λ (x : Report). x.span) h), ap (λ (x : Report). x.children) h), ap (λ (x : Report). x.suggestions) h))

-- two tests that decide one fact give one answer
decides_same : {P : Type 0} (a b : Bool) → Decides a P → Decides b P → a ≡ b
decides_same true true d e = refl
decides_same true false d e = sym (e.1 (d.0 refl))
decides_same false true d e = d.1 (e.0 refl)
decides_same false false d e = refl

report_agrees : (a b : Diagnostic) → report.eq-value.it a b ≡ same_report (report_of a) (report_of b)
report_agrees a b = decides_same _ _ (report_decides a b) (same_report_decides (report_of a) (report_of b))

code_agrees : (a b : DiagnosticId) → code.eq-value.it a b ≡ same_code (code_of a) (code_of b)
code_agrees a b = decides_same _ _ (code_decides a b) (same_code_decides (code_of a) (code_of b))

-- a test of what is there, and the test of what is seen of it
any_agrees : {X Y : Type 0} (E : X → Bool) (F : Y → Bool) (f : X → Y) → ((x : X) → E x ≡ F (f x)) → (xs : List X) → list_any E xs ≡ list_any F (map f xs)
any_agrees E F f agrees [] = refl
any_agrees E F f agrees (x ∷ xs) = let rest = any_agrees E F f agrees xs in let head = agrees x in rw (head, rest) refl

pub any_report : (it : Diagnostic) (reports : List Diagnostic) → list_any (report.eq-value.it it) reports ≡ knows_report (map report_of reports) (report_of it)
any_report it reports = any_agrees (report.eq-value.it it) (same_report (report_of it)) report_of (report_agrees it) reports

pub any_code : (it : DiagnosticId) (codes : List DiagnosticId) → list_any (code.eq-value.it it) codes ≡ knows_code (map code_of codes) (code_of it)
any_code it codes = any_agrees (code.eq-value.it it) (same_code (code_of it)) code_of (code_agrees it) codes
