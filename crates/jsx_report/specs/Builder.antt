-- What clients see of a report that is being made.
use Rattle.std.specs.Prelude.{Bool, Option, if◌then◌else◌, unwrap_or}
use Rattle.jsx_base.specs.MultiSpan.{Spans}
use Rattle.jsx_diag.specs.Adds.{nowhere}
use Rattle.jsx_diag.specs.Data.{Report}
use Rattle.jsx_report.specs.declared.builder.DiagnosticBuilder.{DiagnosticBuilder}

abbrev pub diagnostic_of : {E D : Type 0} → DiagnosticBuilder E D → D
diagnostic_of it = it.diagnostic

-- whether the calls `_with_applicability` add something
abbrev pub suggests : {E D : Type 0} → DiagnosticBuilder E D → Bool
suggests it = it.allow_suggestions

abbrev pub with_diagnostic : {E D : Type 0} → DiagnosticBuilder E D → D → DiagnosticBuilder E D
with_diagnostic it diagnostic = record it { diagnostic = diagnostic }

-- the spans, if there are any
abbrev pub spans_or_nowhere : Option Spans → Spans
spans_or_nowhere span = unwrap_or span nowhere

-- the changed report where changes are allowed
abbrev pub if_allowed : Bool → Report → Report → Report
if_allowed allowed changed old = if allowed then changed else old
