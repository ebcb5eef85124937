use Rattle.std.proofs.Common.{subst}
use Rattle.std.specs.Bool.{IsFalse}
use Rattle.jsx_diag.specs.Data.{Report}
use Rattle.jsx_report.specs.Handler.{Delays}
use Rattle.jsx_report.proofs.handler.Handler.delay_span_bug.Goals as goal

pub returns-in-Ok-clause-delays : goal.returns-in-Ok-clause-delays
returns-in-Ok-clause-delays g c = λ (no : IsFalse c.args.self.now.flags.treat_err_as_bug). subst (λ (it : Report). Delays g.E.Emitter.text g.E.Emitter.faults g.E.Emitter.explains g.E.Emitter.shows it c.args.self.now c.delay.new.self c.delay.result) c.in-Ok.ensures c.delay.ensures.delays
