-- Where a run of reports stopped.
use Rattle.std.specs.Prelude.{List, [], take, drop, Result, Ok, Err}
use Rattle.jsx_diag.specs.Data.{Report}
use Rattle.jsx_report.specs.declared.error.HandlerError.{HandlerError}
use Rattle.jsx_report.specs.declared.handler.ending.Stop.{Stop}

-- the reports before it
abbrev pub done_of : Result (Unit {0}) Stop → List Report → List Report
done_of (Ok x) reports = reports
done_of (Err stop) reports = take stop.done reports

-- the reports from it on
abbrev pub rest_of : Result (Unit {0}) Stop → List Report → List Report
rest_of (Ok x) reports = []
rest_of (Err stop) reports = drop stop.done reports

abbrev pub stop_answer : Result (Unit {0}) Stop → Result (Unit {0}) HandlerError
stop_answer (Ok x) = Ok tt
stop_answer (Err stop) = Err stop.error
