use Rattle.std.proofs.Common.{ap, map}
use Rattle.jsx_tree.specs.View.{forest, inside}
use Rattle.jsx_plan.specs.Noted.{noted_expr, noted_stmt}
use Rattle.jsx_plan.specs.Plan.{behind, job_of, pen_of}
use Rattle.jsx_print.proofs.Bodies.{test_case_is}
use Rattle.jsx_plan.proofs.Planning.{behind_pushed, pen_pushed, planned}
use Rattle.jsx_print.proofs.control.test_case.Goals as goal

pub returns : goal.returns
returns c = planned c.sign-2.result _ _ c.sign-2.ensures (rw (c.in_ok-expr.ensures, c.in_ok-sign.ensures, c.in_ok-step-2.ensures, c.in_ok-stmts.ensures, c.in_ok-step.ensures) (simp (behind_pushed, pen_pushed) (ap (behind (job_of c.args.printer.now)) (test_case_is (pen_of (job_of c.args.printer.now)) (noted_expr c.args.test.now.value) (forest (map (inside noted_stmt) c.args.stmts.now))))))
