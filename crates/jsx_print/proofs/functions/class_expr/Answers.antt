use Rattle.std.proofs.Common.{ap, map}
use Rattle.jsx_tree.specs.View.{inside, members_of_class}
use Rattle.jsx_plan.specs.Noted.{noted_member}
use Rattle.jsx_plan.specs.Plan.{behind, job_of, pen_of}
use Rattle.jsx_print.proofs.Bodies.{class_expr_is}
use Rattle.jsx_plan.proofs.Planning.{behind_led, behind_led_boxed, behind_pushed, pen_led, pen_led_boxed, pen_pushed, planned}
use Rattle.jsx_print.proofs.functions.class_expr.Goals as goal

pub returns : goal.returns
returns c = planned c.sign-3.result _ _ c.sign-3.ensures (rw (c.in_ok-led_boxed.ensures, c.in_ok-led_expr.ensures, c.in_ok-raw.ensures, c.in_ok-sign-2.ensures, c.in_ok-step-2.ensures, c.in_ok-members.ensures, c.in_ok-step.ensures, c.in_ok-sign.ensures) (simp (behind_pushed, pen_pushed, behind_led, pen_led, behind_led_boxed, pen_led_boxed) (ap (behind (job_of c.args.printer.now)) (class_expr_is (pen_of (job_of c.args.printer.now)) c.args.name.now c.args.parent.now (members_of_class (map (inside noted_member) c.args.members.now))))))
