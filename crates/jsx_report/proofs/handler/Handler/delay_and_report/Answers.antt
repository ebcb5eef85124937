use Rattle.jsx_diag.specs.Data.{report_of}
use Rattle.jsx_report.specs.Handler.{books_of}
use Rattle.jsx_report.proofs.Delayed.{answer_waiting}
use Rattle.jsx_report.proofs.handler.Handler.delay_and_report.Goals as goal

pub returns-in-Ok-clause-delays : goal.returns-in-Ok-clause-delays
returns-in-Ok-clause-delays g c = c.report_waiting.ensures.delays c.args.self.now c.requires c.push_copy.ensures.rest c.in-Ok.ensures.added

pub returns-in-Ok-clause-answer : goal.returns-in-Ok-clause-answer
returns-in-Ok-clause-answer g c =
    answer_waiting c.args.self.now.flags c.push_copy.new.self.flags (books_of c.args.self.now) (books_of c.push_copy.new.self) (report_of c.args.diagnostic) c.report_waiting.result c.push_copy.ensures.rest.same_flags c.in-Ok.ensures.added c.report_waiting.ensures.answer
