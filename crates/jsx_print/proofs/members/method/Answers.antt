use Rattle.std.proofs.Common.{ap, map}
use Rattle.jsx_tree.specs.Kinds.{Binds}
use Rattle.jsx_tree.specs.View.{forest_at, holder_of, inside}
use Rattle.jsx_plan.specs.Noted.{noted_key, noted_pattern, noted_stmt}
use Rattle.jsx_plan.specs.Plan.{behind, job_of, owner_of, pen_of}
use Rattle.jsx_print.proofs.Bodies.{method_is}
use Rattle.jsx_plan.proofs.Planning.{behind_keyed, behind_pushed, pen_keyed, pen_pushed, planned_on}
use Rattle.jsx_print.proofs.members.method.Goals as goal

pub returns : goal.returns
returns c = planned_on c.mark.result _ _ c.mark.ensures (rw (c.holder_at.ensures, c.in_ok-key.ensures, c.in_ok-sign-2.ensures, c.in_ok-pats.ensures, c.in_ok-sign.ensures, c.in_ok-body.ensures) (simp (behind_pushed, pen_pushed, behind_keyed, pen_keyed) (ap (behind (job_of c.args.printer.now)) (method_is (pen_of (job_of c.args.printer.now)) (holder_of (owner_of c.args.owner) c.args.placement) (noted_key c.args.key.now) (forest_at Binds (map (inside noted_pattern) c.args.params.now)) c.args.directives.now (map (inside noted_stmt) c.args.stmts.now)))))
