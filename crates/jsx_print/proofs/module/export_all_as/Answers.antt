use Rattle.std.proofs.Common.{ap}
use Rattle.jsx_plan.specs.Plan.{behind, job_of, pen_of}
use Rattle.jsx_plan.proofs.Planning.{behind_pushed, pen_pushed, planned}
use Rattle.jsx_print.proofs.Bodies.{export_all_as_is}
use Rattle.jsx_print.proofs.module.export_all_as.Goals as goal

pub returns : goal.returns
returns c = planned c.sign-2.result _ _ c.sign-2.ensures (rw (c.in_ok-word-2.ensures, c.in_ok-raw.ensures, c.in_ok-word.ensures, c.in_ok-sign.ensures) (simp (behind_pushed, pen_pushed) (ap (behind (job_of c.args.printer.now)) (export_all_as_is (pen_of (job_of c.args.printer.now)) c.args.name.now c.args.source.now))))
