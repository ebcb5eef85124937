-- The reports that a handler makes.
use Rattle.std.specs.Prelude.{Bool, true, false, not, ◌&&◌, ◌||◌, if◌then◌else◌, Option, None, ◌++◌, codes}
use Rattle.jsx_base.specs.MultiSpan.{Spans}
use Rattle.jsx_diag.specs.declared.flags.HandlerFlags.{HandlerFlags}
use Rattle.jsx_diag.specs.declared.level.Level.{Level}
use Rattle.jsx_diag.specs.declared.level.Level.TheVariants.{Bug, Fatal, PhaseFatal, Error, Warning, Note, Help, Cancelled, FailureNote}
use Rattle.jsx_diag.specs.Data.{Text, Code, Report}
use Rattle.jsx_diag.specs.Adds.{new_report}

-- a report that points at these spans
abbrev pub report_at : Level → Option Code → Text → Spans → Report
report_at level code message span = record (new_report level code message) { span = span }

-- a report that points nowhere
abbrev pub plain_report : Level → Text → Report
plain_report level message = new_report level None message

abbrev pub is_warning_level : Level → Bool
is_warning_level Warning = true
is_warning_level Bug = false
is_warning_level Fatal = false
is_warning_level PhaseFatal = false
is_warning_level Error = false
is_warning_level Note = false
is_warning_level Help = false
is_warning_level Cancelled = false
is_warning_level FailureNote = false

-- it is a warning, and warnings are off
abbrev pub is_off : HandlerFlags → Level → Bool
is_off flags level = is_warning_level level && not flags.can_emit_warnings

-- a warning is cancelled where warnings are off
abbrev pub heard : HandlerFlags → Level → Level
heard flags level = if is_off flags level then Cancelled else level

-- an error is a bug of the program that reports it, where the flags say so
abbrev pub bug_or : HandlerFlags → Level → Level
bug_or flags level = if flags.treat_err_as_bug then Bug else level

abbrev pub unimplemented : Text → Text
unimplemented message = codes "unimplemented " ++ message

-- the same report, as a bug
abbrev pub as_bug : Report → Report
as_bug report = record report { level = Bug }

-- reports that could wait don't
abbrev pub is_at_once : HandlerFlags → Bool
is_at_once flags = flags.dont_buffer_diagnostics || flags.treat_err_as_bug
