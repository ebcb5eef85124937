use Rattle.std.proofs.Common.{ap, map}
use Rattle.jsx_tree.specs.Kinds.{Binds}
use Rattle.jsx_tree.specs.View.{forest_at, inside}
use Rattle.jsx_plan.specs.Noted.{noted_pattern, noted_stmt}
use Rattle.jsx_plan.specs.Plan.{behind, job_of, pen_of}
use Rattle.jsx_print.proofs.Bodies.{function_stmt_is}
use Rattle.jsx_plan.proofs.Planning.{behind_pushed, pen_pushed, planned}
use Rattle.jsx_print.proofs.functions.function_stmt.Goals as goal

pub returns : goal.returns
returns c = planned c.sign-3.result _ _ c.sign-3.ensures (rw (c.in_ok-word.ensures, c.in_ok-sign-2.ensures, c.in_ok-pats.ensures, c.in_ok-sign.ensures, c.in_ok-body.ensures) (simp (behind_pushed, pen_pushed) (ap (behind (job_of c.args.printer.now)) (function_stmt_is (pen_of (job_of c.args.printer.now)) c.args.name.now (forest_at Binds (map (inside noted_pattern) c.args.params.now)) c.args.directives.now (map (inside noted_stmt) c.args.stmts.now)))))
