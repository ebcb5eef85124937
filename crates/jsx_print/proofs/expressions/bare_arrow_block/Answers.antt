use Rattle.std.proofs.Common.{ap, map}
use Rattle.jsx_tree.specs.View.{inside}
use Rattle.jsx_plan.specs.Noted.{noted_stmt}
use Rattle.jsx_plan.specs.Plan.{behind, job_of, pen_of}
use Rattle.jsx_print.proofs.Bodies.{bare_arrow_block_is}
use Rattle.jsx_plan.proofs.Planning.{behind_pushed, pen_pushed, planned}
use Rattle.jsx_print.proofs.expressions.bare_arrow_block.Goals as goal

pub returns : goal.returns
returns c = planned c.sign-2.result _ _ c.sign-2.ensures (rw (c.in_ok-word.ensures, c.in_ok-sign.ensures, c.in_ok-body.ensures) (simp (behind_pushed, pen_pushed) (ap (behind (job_of c.args.printer.now)) (bare_arrow_block_is (pen_of (job_of c.args.printer.now)) c.args.param.now c.args.directives.now (map (inside noted_stmt) c.args.stmts.now)))))
