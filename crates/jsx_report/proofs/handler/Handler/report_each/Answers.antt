use Rattle.std.proofs.Common.{◌≡◌, ◌++◌, ◌∷◌, List, map, take, drop, suc, sym, ap, ◌∙◌, arith}
use Rattle.std.proofs.lemmas.List.{take-append-drop}
use Rattle.jsx_diag.specs.Data.{Report, report_of}
use Rattle.jsx_report.specs.Handler.{books_of}
use Rattle.jsx_report.proofs.Ending.{ended, one_more_went, answers_step, answer_ended, answer_first, take_next, drop_here}
use Rattle.jsx_report.proofs.handler.Handler.report_each.Goals as goal

pub returns-in-Err-clause-hands : goal.returns-in-Err-clause-hands
returns-in-Err-clause-hands g c =
    let i = c.loop-report.report-index in
    let rs = map report_of c.args.reports.now in
    rw (c.loop-report.invariant.counted, drop_here report_of c.args.reports.now i c.report-item.result c.loop-report-test.true c.report-item.is)
    (ended g.E.Emitter.text g.E.Emitter.faults g.E.Emitter.explains g.E.Emitter.shows c.in-Err.error (take i rs) (report_of c.report-item.result) (drop (suc i) rs) c.args.self.now c.loop-report.self c.report_copy.new.self c.loop-report.invariant.went c.in-Err.ensures.reports)

pub returns-in-Err-clause-answer : goal.returns-in-Err-clause-answer
returns-in-Err-clause-answer g c =
    let i = c.loop-report.report-index in
    let rs = map report_of c.args.reports.now in
    let whole : take i rs ++ report_of c.report-item.result ∷ drop (suc i) rs ≡ rs = ap (λ (x : List Report). take i rs ++ x) (sym (drop_here report_of c.args.reports.now i c.report-item.result c.loop-report-test.true c.report-item.is)) ∙ take-append-drop i rs in
    rw whole at (answer_ended c.in-Err.error c.args.self.now.flags c.loop-report.self.flags (books_of c.args.self.now) (books_of c.loop-report.self) (take i rs) (report_of c.report-item.result) (drop (suc i) rs) c.loop-report.invariant.went.settings.same_flags c.loop-report.invariant.went.booked c.loop-report.invariant.answers c.in-Err.ensures.answer)

pub returns-in-Err-clause-fine : goal.returns-in-Err-clause-fine
returns-in-Err-clause-fine g c = rw c.loop-report.invariant.counted c.loop-report.invariant.answers

pub returns-in-Err-clause-answered : goal.returns-in-Err-clause-answered
returns-in-Err-clause-answered g c =
    let i = c.loop-report.report-index in
    let rs = map report_of c.args.reports.now in
    rw (c.loop-report.invariant.counted, drop_here report_of c.args.reports.now i c.report-item.result c.loop-report-test.true c.report-item.is)
    (answer_first c.in-Err.error c.args.self.now.flags c.loop-report.self.flags (books_of c.args.self.now) (books_of c.loop-report.self) (take i rs) (report_of c.report-item.result) c.loop-report.invariant.went.settings.same_flags c.loop-report.invariant.went.booked c.in-Err.ensures.answer)

pub loop-report-preserved : goal.loop-report-preserved
loop-report-preserved g c =
    let i = c.loop-report.report-index in
    let rs = map report_of c.args.reports.now in
    let next = take_next report_of c.args.reports.now i c.report-item.result c.loop-report-test.true c.report-item.is in
    record {
      counted = omega (arith, c.loop-report.invariant.counted);
      went = rw next (one_more_went g.E.Emitter.text g.E.Emitter.faults g.E.Emitter.explains g.E.Emitter.shows (take i rs) (report_of c.report-item.result) c.args.self.now c.loop-report.self c.report_copy.new.self c.loop-report.invariant.went c.in_default.ensures.reports);
      answers = rw next (answers_step c.args.self.now.flags c.loop-report.self.flags (books_of c.args.self.now) (books_of c.loop-report.self) (take i rs) (report_of c.report-item.result) c.loop-report.invariant.went.settings.same_flags c.loop-report.invariant.went.booked c.loop-report.invariant.answers c.in_default.ensures.answer);
    }
