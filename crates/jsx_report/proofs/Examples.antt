-- The definitions, computed on small books.
use Rattle.std.proofs.Common.{◌≡◌, Bool, true, false, [], ◌∷◌, Some, Ok, Err, refl}
use Rattle.std.specs.Prelude.{codes}
use Rattle.jsx_diag.specs.declared.flags.HandlerFlags.{HandlerFlags}
use Rattle.jsx_diag.specs.declared.level.Level.TheVariants.{Fatal, Error, Warning, Cancelled}
use Rattle.jsx_diag.specs.Data.{Report, ErrorCode, LintCode}
use Rattle.jsx_diag.specs.Adds.{new_report}
use Rattle.jsx_report.specs.declared.error.HandlerError.TheVariants.{ExplicitBug, FatalError}
use Rattle.jsx_report.specs.Same.{same_report}
use Rattle.jsx_report.specs.Books.{no_books, booked, booked_all, news, news_all, delayed_after}
use Rattle.jsx_report.specs.Made.{heard, plain_report}
use Rattle.jsx_report.specs.Handler.{answer_to, stop_after}
use Rattle.jsx_report.specs.Ending.{closing, error_names}

-- all is printed; errors are bugs or not
abbrev with_bugs : Bool → HandlerFlags
with_bugs treat = record { can_emit_warnings = true; treat_err_as_bug = treat; dont_buffer_diagnostics = false; report_delayed_bugs = false; external_macro_backtrace = false }

abbrev plain : HandlerFlags
plain = with_bugs false

abbrev strict : HandlerFlags
strict = with_bugs true

abbrev error : Report
error = plain_report Error (codes "m")

abbrev warning : Report
warning = plain_report Warning (codes "m")

abbrev coded : Report
coded = new_report Error (Some (ErrorCode (codes "E1"))) (codes "m")

same_as_itself : same_report coded coded ≡ true
same_as_itself = refl

another_code : same_report coded error ≡ false
another_code = refl

another_level : same_report warning error ≡ false
another_level = refl

an_error_is_counted : (booked plain no_books error).count ≡ 1
an_error_is_counted = refl

a_warning_is_not : (booked plain no_books warning).count ≡ 0
a_warning_is_not = refl

both_are_entered : (booked plain (booked plain no_books error) warning).reports ≡ error ∷ warning ∷ []
both_are_entered = refl

an_equal_one_is_not : booked_all plain no_books (error ∷ error ∷ []) ≡ booked plain no_books error
an_equal_one_is_not = refl

it_is_printed_once : news_all plain no_books (error ∷ warning ∷ error ∷ []) ≡ error ∷ warning ∷ []
it_is_printed_once = refl

a_cancelled_one_is_nothing : news no_books (plain_report Cancelled (codes "m")) ≡ []
a_cancelled_one_is_nothing = refl

a_code_is_seen_once : (booked plain (booked plain no_books coded) (new_report Warning (Some (ErrorCode (codes "E1"))) (codes "n"))).seen ≡ ErrorCode (codes "E1") ∷ []
a_code_is_seen_once = refl

a_bug_is_not_counted : (booked strict no_books error).count ≡ 0
a_bug_is_not_counted = refl

a_bug_is_answered : answer_to strict no_books error ≡ Err ExplicitBug
a_bug_is_answered = refl

an_equal_bug_is_not : answer_to strict (booked strict no_books error) error ≡ Ok tt
an_equal_bug_is_not = refl

work_stops : stop_after false 1 (Ok tt) ≡ Err FatalError
work_stops = refl

work_goes_on : stop_after true 1 (Ok tt) ≡ Ok tt
work_goes_on = refl

a_bug_waits : (delayed_after plain no_books error).delayed ≡ error ∷ []
a_bug_waits = refl

a_warning_is_cancelled : heard (record plain { can_emit_warnings = false }) Warning ≡ Cancelled
a_warning_is_cancelled = refl

only_errors_have_names : error_names (LintCode (codes "l") ∷ ErrorCode (codes "E1") ∷ []) ≡ codes "E1" ∷ []
only_errors_have_names = refl

one_error_ends : closing 1 false [] ≡ plain_report Fatal (codes "aborting due to previous error") ∷ []
one_error_ends = refl
