-- The books of a handler: which reports were printed, and what was counted.
use Rattle.std.specs.Prelude.{ℕ, Bool, not, ◌&&◌, if◌then◌else◌, List, [], ◌∷◌, ◌++◌, Option, Some, None}
use Rattle.std.specs.List.{list_any}
use Rattle.jsx_base.specs.Faults.{next_count}
use Rattle.jsx_diag.specs.declared.flags.HandlerFlags.{HandlerFlags}
use Rattle.jsx_diag.specs.Level.{is_error_level, is_cancelled_level}
use Rattle.jsx_diag.specs.Data.{Code, Report}
use Rattle.jsx_report.specs.Same.{same_code, same_report}

-- the distinct reports and the number of errors since the last reset, the codes of all reports, the codes that were
-- taught, and the bugs that wait
pub record Books : Type 0 where
  pub reports : List Report
  pub count : ℕ
  pub seen : List Code
  pub taught : List Code
  pub delayed : List Report

-- the books of a new handler
abbrev pub no_books : Books
no_books = record { reports = []; count = 0; seen = []; taught = []; delayed = [] }

abbrev pub knows_report : List Report → Report → Bool
knows_report reports report = list_any (same_report report) reports

abbrev pub knows_code : List Code → Code → Bool
knows_code codes code = list_any (same_code code) codes

abbrev pub with_code : List Code → Code → List Code
with_code codes code = if knows_code codes code then codes else codes ++ code ∷ []

abbrev pub with_code_of : List Code → Option Code → List Code
with_code_of codes None = codes
with_code_of codes (Some code) = with_code codes code

-- the report isn't cancelled, and no equal one was entered
abbrev pub is_news : Books → Report → Bool
is_news books report = not (is_cancelled_level report.level) && not (knows_report books.reports report)

-- the number of errors after a report, which may be one
abbrev pub counted : HandlerFlags → Bool → ℕ → ℕ
counted flags is_error count = if is_error && not flags.treat_err_as_bug then next_count count else count

-- a report that was printed is entered
abbrev pub entered : HandlerFlags → Books → Report → Books
entered flags books report = record books { reports = books.reports ++ report ∷ []; count = counted flags (is_error_level report.level) books.count; seen = with_code_of books.seen report.code }

-- the next state of the books
abbrev pub booked : HandlerFlags → Books → Report → Books
booked flags books report = if is_news books report then entered flags books report else books

-- the report, where it is printed
abbrev pub news : Books → Report → List Report
news books report = if is_news books report then report ∷ [] else []

-- it is printed, and shows a bug of the program that reports it
abbrev pub is_bug : HandlerFlags → Books → Report → Bool
is_bug flags books report = is_news books report && is_error_level report.level && flags.treat_err_as_bug

-- a bug that waits is entered, and printed at once where the flags say so
abbrev pub delayed_after : HandlerFlags → Books → Report → Books
delayed_after flags books report = let now = if flags.report_delayed_bugs then booked flags books report else books in record now { delayed = books.delayed ++ report ∷ [] }

abbrev pub delayed_news : HandlerFlags → Books → Report → List Report
delayed_news flags books report = if flags.report_delayed_bugs then news books report else []

-- the same for reports one after another
abbrev pub booked_all : HandlerFlags → Books → List Report → Books
booked_all flags books [] = books
booked_all flags books (report ∷ reports) = booked_all flags (booked flags books report) reports

abbrev pub news_all : HandlerFlags → Books → List Report → List Report
news_all flags books [] = []
news_all flags books (report ∷ reports) = news books report ++ news_all flags (booked flags books report) reports
