use Rattle.std.proofs.Common.{ap, map}
use Rattle.jsx_tree.specs.View.{forest, inside}
use Rattle.jsx_plan.specs.Noted.{noted_control, noted_expr}
use Rattle.jsx_plan.specs.Plan.{behind, job_of, pen_of}
use Rattle.jsx_print.proofs.Bodies.{switch_is}
use Rattle.jsx_plan.proofs.Planning.{behind_pushed, pen_pushed, planned}
use Rattle.jsx_print.proofs.control.switch.Goals as goal

pub returns : goal.returns
returns c = planned c.sign-4.result _ _ c.sign-4.ensures (rw (c.in_ok-expr.ensures, c.in_ok-sign-3.ensures, c.in_ok-sign-2.ensures, c.in_ok-step-2.ensures, c.in_ok-cases.ensures, c.in_ok-step.ensures, c.in_ok-sign.ensures) (simp (behind_pushed, pen_pushed) (ap (behind (job_of c.args.printer.now)) (switch_is (pen_of (job_of c.args.printer.now)) (noted_expr c.args.value.now.value) (forest (map (inside noted_control) c.args.cases.now))))))
