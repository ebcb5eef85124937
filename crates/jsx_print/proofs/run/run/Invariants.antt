use Rattle.std.proofs.Common.{◌≡◌}
use Rattle.jsx_plan.specs.Plan.{job_of, outcome}
use Rattle.jsx_print.proofs.run.run.Given as goal

abbrev pub invariant-loop-turn : goal.invariant-loop-turn
invariant-loop-turn l = outcome (job_of l.printer) ≡ outcome (job_of l.fn.printer)
