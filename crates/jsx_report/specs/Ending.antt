-- Reports one after another, and what a run ends with.
use Rattle.std.specs.Prelude.{◌≡◌, ◌⊎◌, ℕ, Bool, false, not, if◌then◌else◌, nat_eq, nat_lt, List, [], ◌∷◌, ◌++◌, length, take, flat_map, Option, Result, Ok, Err, IsTrue, IsPermutation, OnOk, OnErr, codes, decimal, ⊤}
use Rattle.std.specs.Ordering.{nat_cmp, is_lt}
use Rattle.std.specs.Cmp.Lexicographic.{slice_cmp}
use Rattle.jsx_base.specs.Faults.{Rose}
use Rattle.jsx_diag.specs.declared.flags.HandlerFlags.{HandlerFlags}
use Rattle.jsx_diag.specs.declared.level.Level.TheVariants.{Fatal, FailureNote}
use Rattle.jsx_diag.specs.Data.{Text, Code, ErrorCode, LintCode, Report}
use Rattle.jsx_report.specs.declared.handler.Handler.{Handler}
use Rattle.jsx_report.specs.declared.error.EmitError.TheVariants.{WriteFault, Memory as NoRoom}
use Rattle.jsx_report.specs.declared.error.HandlerError.{HandlerError}
use Rattle.jsx_report.specs.declared.error.HandlerError.TheVariants.{Emit, ExplicitBug, FatalError, Memory}
use Rattle.jsx_report.specs.Emitter.{PrintsAll, PrintsFront, is_empty}
use Rattle.jsx_report.specs.Books.{Books, booked, booked_all, news_all}
use Rattle.jsx_report.specs.Made.{plain_report}
use Rattle.jsx_report.specs.Handler.{KeepsSettings, OnEmit, OnFault, UnlessRefused, answer_to, books_of, emitter_of}

-- the first of the reports
abbrev pub first_of : List Report → List Report
first_of [] = []
first_of (report ∷ reports) = report ∷ []

-- The reports that were entered: those before, and the one that ended it, where that went well and shows a bug.
abbrev pub entered_reports : {T : Type 0} → Result T HandlerError → List Report → List Report → List Report
entered_reports (Ok x) done rest = done
entered_reports (Err ExplicitBug) done rest = done ++ first_of rest
entered_reports (Err FatalError) done rest = done ++ first_of rest
entered_reports (Err (Emit e)) done rest = done
entered_reports (Err Memory) done rest = done

-- no page was cut off
abbrev pub OnQuiet : {T : Type 0} → Result T HandlerError → Type 0 → Type 0
OnQuiet (Ok x) P = P
OnQuiet (Err ExplicitBug) P = P
OnQuiet (Err FatalError) P = P
OnQuiet (Err (Emit WriteFault)) P = ⊤
OnQuiet (Err (Emit NoRoom)) P = P
OnQuiet (Err Memory) P = P

-- the answer, if it is an error, and else the next
abbrev pub and_then : Result (Unit {0}) HandlerError → Result (Unit {0}) HandlerError → Result (Unit {0}) HandlerError
and_then (Ok x) next = next
and_then (Err e) next = Err e

-- what is answered to reports that all went well, or up to the first that shows a bug
abbrev pub answer_all : HandlerFlags → Books → List Report → Result (Unit {0}) HandlerError
answer_all flags books [] = Ok tt
answer_all flags books (report ∷ reports) = and_then (answer_to flags books report) (answer_all flags (booked flags books report) reports)

-- an answer without its value
abbrev pub without_value : {T : Type 0} → Result T HandlerError → Result (Unit {0}) HandlerError
without_value (Ok x) = Ok tt
without_value (Err e) = Err e

module _ {E : Type 0} (text : E → Option Text) (faults : E → ℕ) (explains : E → Bool) (shows : E → HandlerFlags → Report → Text → Type 0) where
  -- The reports `done` were handed in one after another and went well. With an error the next was the first of `rest`;
  -- it is the one that was refused, or that shows a bug.
  pub record HandsSome {T : Type 0} (leave : Books → Books) (done rest : List Report) (old new : Handler E) (result : Result T HandlerError) : Type 0 where
    pub whole : OnOk result (rest ≡ [])
    pub booked : books_of new ≡ leave (booked_all old.flags (books_of old) (entered_reports result done rest))
    pub between : Option Text
    pub printed : PrintsAll (shows (emitter_of old) old.flags) (news_all old.flags (books_of old) (entered_reports result done rest)) (text (emitter_of old)) between
    pub quiet : OnQuiet result (text (emitter_of new) ≡ between)
    pub prefix : OnFault result (PrintsFront (shows (emitter_of old) old.flags) rest between (text (emitter_of new)))
    pub cause : OnFault result (Rose (faults (emitter_of old)) (faults (emitter_of new)))
    pub asked : OnEmit result (IsTrue (not (is_empty (news_all old.flags (booked_all old.flags (books_of old) done) (first_of rest)))))
    pub settings : KeepsSettings text faults explains shows old new

  -- The reports were handed in one after another, up to the first that was refused or shows a bug.
  pub record HandsAll {T : Type 0} (leave : List Report → Books → Books) (reports : List Report) (old new : Handler E) (result : Result T HandlerError) : Type 0 where
    pub done : List Report
    pub rest : List Report
    pub split : reports ≡ done ++ rest
    pub hands : HandsSome (leave rest) done rest old new result
    -- none of those before shows a bug, an error is that of a report, and the first of the rest answers so
    pub fine : answer_all old.flags (books_of old) done ≡ Ok tt
    pub stops : OnErr result (IsTrue (not (is_empty rest)))
    pub answered : UnlessRefused result (without_value result ≡ answer_all old.flags (booked_all old.flags (books_of old) done) (first_of rest))

-- the books, in which these bugs wait
abbrev pub waiting : List Report → Books → Books
waiting delayed books = record books { delayed = delayed }

-- the books as they are
abbrev pub as_booked : List Report → Books → Books
as_booked rest books = books

-- the name, where the code is one of errors
abbrev pub error_name : Code → List Text
error_name (ErrorCode name) = name ∷ []
error_name (LintCode name) = []

-- the names of errors among codes
abbrev pub error_names : List Code → List Text
error_names codes = flat_map error_name codes

-- no text is less than the one before it, by their bytes
abbrev pub IsInByteOrder : List Text → Type 0
IsInByteOrder [] = ⊤
IsInByteOrder (a ∷ []) = ⊤
IsInByteOrder (a ∷ b ∷ texts) = (is_lt (slice_cmp nat_cmp b a) ≡ false) × IsInByteOrder (b ∷ texts)

-- the names of the errors that were seen, in byte order
pub record IsNamesOf (seen : List Code) (names : List Text) : Type 0 where
  pub same : IsPermutation (error_names seen) names
  pub order : IsInByteOrder names

abbrev pub count_text : ℕ → Text
count_text count = if nat_eq count 1 then codes "aborting due to previous error" else codes "aborting due to " ++ decimal count ++ codes " previous errors"

abbrev pub with_comma : Text → Text
with_comma name = codes ", " ++ name

-- the first name and at most eight more; three dots say that there are others
unfoldable pub some_errors_text : Text → List Text → Text
some_errors_text first others = codes "Some errors occurred: " ++ first ++ flat_map with_comma (take 8 others) ++ (if nat_lt 8 (length others) then codes "..." else codes ".")

unfoldable pub this_error_text : Text → Text
this_error_text name = codes "For more information about this error, try `rustc --explain " ++ name ++ codes "`."

unfoldable pub an_error_text : Text → Text
an_error_text name = codes "For more information about an error, try `rustc --explain " ++ name ++ codes "`."

-- what is said of the errors by their names
abbrev pub explanations : List Text → List Report
explanations [] = []
explanations (a ∷ []) = plain_report FailureNote (this_error_text a) ∷ []
explanations (a ∷ b ∷ names) = plain_report FailureNote (some_errors_text a (b ∷ names)) ∷ plain_report FailureNote (an_error_text a) ∷ []

-- what a run with errors ends with
abbrev pub closing : ℕ → Bool → List Text → List Report
closing count explained names = plain_report Fatal (count_text count) ∷ (if explained then explanations names else [])

-- what was made to be handed in at the end
pub record IsClosing (count : ℕ) (explained : Bool) (seen : List Code) (reports : List Report) : Type 0 where
  pub names : List Text
  pub named : IsNamesOf seen names
  pub reports_are : reports ≡ closing count explained names

module _ {E : Type 0} (text : E → Option Text) (faults : E → ℕ) (explains : E → Bool) (shows : E → HandlerFlags → Report → Text → Type 0) where
  -- What a run with errors ends with was handed in.
  pub record Closes {T : Type 0} (old new : Handler E) (result : Result T HandlerError) : Type 0 where
    pub reports : List Report
    pub closing : IsClosing (books_of old).count (explains (emitter_of old)) (books_of old).seen reports
    pub hands : HandsAll text faults explains shows as_booked reports old new result

  -- Or memory was wanting before the first of it, and nothing has changed.
  abbrev pub ClosesOrWants : {T : Type 0} → Handler E → Handler E → Result T HandlerError → Type 0
  ClosesOrWants old new result = Closes old new result ⊎ ((result ≡ Err Memory) × (new ≡ old))
