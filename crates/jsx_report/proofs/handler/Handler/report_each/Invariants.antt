use Rattle.std.proofs.Common.{◌≡◌, [], map, take, Ok}
use Rattle.jsx_diag.specs.Data.{report_of}
use Rattle.jsx_report.specs.Handler.{books_of}
use Rattle.jsx_report.specs.Ending.{HandsSome, answer_all}
use Rattle.jsx_report.proofs.handler.Handler.report_each.Given as goal

abbrev pub invariant-loop-report : goal.invariant-loop-report
invariant-loop-report g l = record {
  counted : l.done ≡ l.report-index;
  went : HandsSome g.E.Emitter.text g.E.Emitter.faults g.E.Emitter.explains g.E.Emitter.shows {T = Unit {0}} (λ books. books) (take l.report-index (map report_of l.reports)) [] l.fn.self l.self (Ok tt);
  answers : answer_all l.fn.self.flags (books_of l.fn.self) (take l.report-index (map report_of l.reports)) ≡ Ok tt;
}
