-- What a report's level says.
use Rattle.std.specs.Prelude.{ℕ, List, [], Option, Some, None, Bool, true, false, codes, unwrap_or}
use Rattle.jsx_diag.specs.declared.level.Level.{Level}
use Rattle.jsx_diag.specs.declared.level.Level.TheVariants.{Bug, Fatal, PhaseFatal, Error, Warning, Note, Help, Cancelled, FailureNote}

-- the bytes of the level's word; a cancelled report has none
abbrev pub level_text : Level → Option (List ℕ)
level_text Bug = Some (codes "error: internal compiler error")
level_text Fatal = Some (codes "error")
level_text PhaseFatal = Some (codes "error")
level_text Error = Some (codes "error")
level_text Warning = Some (codes "warning")
level_text Note = Some (codes "note")
level_text Help = Some (codes "help")
level_text Cancelled = None
level_text FailureNote = Some []

-- what is printed
abbrev pub shown_text : Level → List ℕ
shown_text level = unwrap_or (level_text level) []

-- the report says that something went wrong
abbrev pub is_error_level : Level → Bool
is_error_level Bug = true
is_error_level Fatal = true
is_error_level PhaseFatal = true
is_error_level Error = true
is_error_level FailureNote = true
is_error_level Warning = false
is_error_level Note = false
is_error_level Help = false
is_error_level Cancelled = false

abbrev pub is_cancelled_level : Level → Bool
is_cancelled_level Cancelled = true
is_cancelled_level Bug = false
is_cancelled_level Fatal = false
is_cancelled_level PhaseFatal = false
is_cancelled_level Error = false
is_cancelled_level FailureNote = false
is_cancelled_level Warning = false
is_cancelled_level Note = false
is_cancelled_level Help = false

abbrev pub is_failure_level : Level → Bool
is_failure_level FailureNote = true
is_failure_level Bug = false
is_failure_level Fatal = false
is_failure_level PhaseFatal = false
is_failure_level Error = false
is_failure_level Cancelled = false
is_failure_level Warning = false
is_failure_level Note = false
is_failure_level Help = false
