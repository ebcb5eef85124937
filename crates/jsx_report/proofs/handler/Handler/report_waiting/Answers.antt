use Rattle.jsx_diag.specs.Data.{report_of}
use Rattle.jsx_report.proofs.Delayed.{delays}
use Rattle.jsx_report.proofs.handler.Handler.report_waiting.Goals as goal

pub returns-clause-delays : goal.returns-clause-delays
returns-clause-delays g c = λ before at_once rest put.
    rw c.taken_back.ensures.same (delays g.E.Emitter.text g.E.Emitter.faults g.E.Emitter.explains g.E.Emitter.shows before c.args.self.now c.report-answer.new.self c.taken_back.new.self (report_of c.args.diagnostic) c.report-answer.result at_once rest put c.report-answer.ensures.reports c.taken_back.ensures.went c.taken_back.ensures.refused c.taken_back.ensures.rest)

pub returns-clause-answer : goal.returns-clause-answer
returns-clause-answer g c = rw c.taken_back.ensures.same c.report-answer.ensures.answer
