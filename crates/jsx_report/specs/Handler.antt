-- What clients see of a handler, and what a call leaves.
use Rattle.std.specs.Prelude.{◌≡◌, ℕ, ◌≤◌, Bool, List, Option, Result, Ok, Err, IsTrue, map, if◌then◌else◌, ◌&&◌, not, nat_eq, ⊤}
use Rattle.jsx_base.specs.Faults.{Rose}
use Rattle.jsx_diag.specs.declared.flags.HandlerFlags.{HandlerFlags}
use Rattle.jsx_diag.specs.Data.{Text, Report, code_of, report_of}
use Rattle.jsx_diag.specs.declared.flags.FatalError.{FatalError as Fatal}
use Rattle.jsx_report.specs.declared.handler.Handler.{Handler}
use Rattle.jsx_report.specs.declared.error.EmitError.TheVariants.{WriteFault, Memory as NoRoom}
use Rattle.jsx_report.specs.declared.error.HandlerError.{HandlerError}
use Rattle.jsx_report.specs.declared.error.HandlerError.TheVariants.{Emit, ExplicitBug, FatalError, Memory}
use Rattle.jsx_report.specs.Emitter.{PrintsAll, PrintsFront, ShowAlike, is_empty}
use Rattle.jsx_report.specs.Books.{Books, is_bug, booked, news, delayed_after, delayed_news}

abbrev pub emitter_of : {E : Type 0} → Handler E → E
emitter_of handler = handler.emitter

-- whether work goes on after an error
abbrev pub continues : {E : Type 0} → Handler E → Bool
continues handler = handler.continue_after_error

abbrev pub books_of : {E : Type 0} → Handler E → Books
books_of handler = record { reports = map report_of handler.reports.keys; count = handler.err_count; seen = map code_of handler.seen.keys; taught = map code_of handler.taught.keys; delayed = map report_of handler.delayed.items }

-- what is answered to a report that was entered, which may be an error
abbrev pub answer_entered : HandlerFlags → Bool → Result (Unit {0}) HandlerError
answer_entered flags is_error = if is_error && flags.treat_err_as_bug then Err ExplicitBug else Ok tt

-- what is answered to a report that went well
abbrev pub answer_to : HandlerFlags → Books → Report → Result (Unit {0}) HandlerError
answer_to flags books report = if is_bug flags books report then Err ExplicitBug else Ok tt

-- what is answered where errors end the work
abbrev pub stop_after : Bool → ℕ → Result (Unit {0}) HandlerError → Result (Unit {0}) HandlerError
stop_after goes_on count (Ok x) = if not goes_on && not (nat_eq count 0) then Err FatalError else Ok x
stop_after goes_on count (Err e) = Err e

abbrev pub answer_stopping : HandlerFlags → Bool → Books → Report → Result (Unit {0}) HandlerError
answer_stopping flags goes_on books report = stop_after goes_on (booked flags books report).count (answer_to flags books report)

-- what is answered to a bug that waits
abbrev pub answer_delayed : HandlerFlags → Books → Report → Result (Unit {0}) HandlerError
answer_delayed flags books report = if flags.report_delayed_bugs then answer_to flags books report else Ok tt

-- what is answered to an error that is a bug where the flags say so
abbrev pub bug_or_ok : {T : Type 0} → HandlerFlags → T → Result T HandlerError
bug_or_ok flags x = if flags.treat_err_as_bug then Err ExplicitBug else Ok x

-- the error that a call answers, as a result
abbrev pub refusal : HandlerError → Result (Unit {0}) HandlerError
refusal e = Err e

-- the same answer, with a `FatalError` in place of nothing
abbrev pub as_fatal : Result (Unit {0}) HandlerError → Result Fatal HandlerError
as_fatal (Ok x) = Ok (record {})
as_fatal (Err e) = Err e

-- the report went well: neither the emitter refused it nor was memory wanting
abbrev pub UnlessRefused : {T : Type 0} → Result T HandlerError → Type 0 → Type 0
UnlessRefused (Ok x) P = P
UnlessRefused (Err ExplicitBug) P = P
UnlessRefused (Err FatalError) P = P
UnlessRefused (Err (Emit e)) P = ⊤
UnlessRefused (Err Memory) P = ⊤

-- it didn't go well
abbrev pub OnRefused : {T : Type 0} → Result T HandlerError → Type 0 → Type 0
OnRefused (Ok x) P = ⊤
OnRefused (Err ExplicitBug) P = ⊤
OnRefused (Err FatalError) P = ⊤
OnRefused (Err (Emit e)) P = P
OnRefused (Err Memory) P = P

-- the emitter refused it
abbrev pub OnEmit : {T : Type 0} → Result T HandlerError → Type 0 → Type 0
OnEmit (Ok x) P = ⊤
OnEmit (Err ExplicitBug) P = ⊤
OnEmit (Err FatalError) P = ⊤
OnEmit (Err (Emit e)) P = P
OnEmit (Err Memory) P = ⊤

-- the emitter met a fault
abbrev pub OnFault : {T : Type 0} → Result T HandlerError → Type 0 → Type 0
OnFault (Ok x) P = ⊤
OnFault (Err ExplicitBug) P = ⊤
OnFault (Err FatalError) P = ⊤
OnFault (Err (Emit WriteFault)) P = P
OnFault (Err (Emit NoRoom)) P = ⊤
OnFault (Err Memory) P = ⊤

-- memory was wanting
abbrev pub OnWant : {T : Type 0} → Result T HandlerError → Type 0 → Type 0
OnWant (Ok x) P = ⊤
OnWant (Err ExplicitBug) P = ⊤
OnWant (Err FatalError) P = ⊤
OnWant (Err (Emit WriteFault)) P = ⊤
OnWant (Err (Emit NoRoom)) P = P
OnWant (Err Memory) P = P

-- the flags, the emitter and the will to go on stay as they are
pub record KeepsRest {E : Type 0} (old new : Handler E) : Type 0 where
  pub same_flags : new.flags ≡ old.flags
  pub same_emitter : emitter_of new ≡ emitter_of old
  pub same_will : continues new ≡ continues old

module _ {E : Type 0} (text : E → Option Text) (faults : E → ℕ) (explains : E → Bool) (shows : E → HandlerFlags → Report → Text → Type 0) where
  -- what no report changes: the flags, and how the emitter is set
  pub record KeepsSettings (old new : Handler E) : Type 0 where
    pub same_flags : new.flags ≡ old.flags
    pub same_will : continues new ≡ continues old
    pub same_explains : explains (emitter_of new) ≡ explains (emitter_of old)
    pub same_pages : ShowAlike (shows (emitter_of old)) (shows (emitter_of new))
    pub never_falls : faults (emitter_of old) ≤ faults (emitter_of new)

  -- These reports, of which there is at most one, are to be printed, and the books are to be so after it. Where that is
  -- refused, the books are as before.
  pub record HandsIn {T : Type 0} (reports : List Report) (after : Books) (old new : Handler E) (result : Result T HandlerError) : Type 0 where
    pub booked : UnlessRefused result (books_of new ≡ after)
    pub printed : UnlessRefused result (PrintsAll (shows (emitter_of old) old.flags) reports (text (emitter_of old)) (text (emitter_of new)))
    pub kept : OnRefused result (books_of new ≡ books_of old)
    pub asked : OnEmit result (IsTrue (not (is_empty reports)))
    pub cause : OnFault result (Rose (faults (emitter_of old)) (faults (emitter_of new)))
    pub prefix : OnFault result (PrintsFront (shows (emitter_of old) old.flags) reports (text (emitter_of old)) (text (emitter_of new)))
    pub unprinted : OnWant result (text (emitter_of new) ≡ text (emitter_of old))
    pub settings : KeepsSettings old new

  -- The report is handed in: where it is news, it is printed and entered.
  abbrev pub Reports : {T : Type 0} → Report → Handler E → Handler E → Result T HandlerError → Type 0
  Reports report old new result = HandsIn (news (books_of old) report) (booked old.flags (books_of old) report) old new result

  -- The report is entered as a bug that waits.
  abbrev pub Delays : {T : Type 0} → Report → Handler E → Handler E → Result T HandlerError → Type 0
  Delays report old new result = HandsIn (delayed_news old.flags (books_of old) report) (delayed_after old.flags (books_of old) report) old new result
