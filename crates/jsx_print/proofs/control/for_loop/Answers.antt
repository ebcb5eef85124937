use Rattle.std.proofs.Common.{ap}
use Rattle.jsx_plan.specs.Plan.{behind, job_of, pen_of}
use Rattle.jsx_print.proofs.Bodies.{for_loop_is}
use Rattle.jsx_plan.proofs.Planning.{behind_led, behind_may, behind_pushed, pen_led, pen_may, pen_pushed, planned}
use Rattle.jsx_print.proofs.control.for_loop.Goals as goal
use Rattle.jsx_plan.specs.Noted.{noted_stmt}

pub returns : goal.returns
returns c = planned c.sign-4.result _ _ c.sign-4.ensures (rw (c.in_ok-may_pat.ensures, c.in_ok-sign-3.ensures, c.in_ok-led_expr-2.ensures, c.in_ok-sign-2.ensures, c.in_ok-led_expr.ensures, c.in_ok-sign.ensures, c.in_ok-stmt.ensures) (simp (behind_pushed, pen_pushed, behind_led, pen_led, behind_may, pen_may) (ap (behind (job_of c.args.printer.now)) (for_loop_is (pen_of (job_of c.args.printer.now)) c.args.init.now c.args.test.now c.args.update.now (noted_stmt c.args.body.now.value)))))
