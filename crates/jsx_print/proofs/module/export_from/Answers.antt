use Rattle.std.proofs.Common.{ap, map}
use Rattle.jsx_tree.specs.Kinds.{From}
use Rattle.jsx_tree.specs.View.{forest}
use Rattle.jsx_tree.specs.ViewProgram.{view_specifier}
use Rattle.jsx_plan.specs.Plan.{behind, job_of, pen_of}
use Rattle.jsx_print.proofs.Bodies.{export_from_is}
use Rattle.jsx_plan.proofs.Planning.{behind_pushed, pen_pushed, planned}
use Rattle.jsx_print.proofs.module.export_from.Goals as goal

pub returns : goal.returns
returns c = planned c.sign-3.result _ _ c.sign-3.ensures (rw (c.in_ok-step-2.ensures, c.in_ok-specifiers.ensures, c.in_ok-step.ensures, c.in_ok-sign-2.ensures, c.in_ok-word.ensures, c.in_ok-sign.ensures) (simp (behind_pushed, pen_pushed) (ap (behind (job_of c.args.printer.now)) (export_from_is (pen_of (job_of c.args.printer.now)) (forest (map (view_specifier From) c.args.specifiers.now.items)) c.args.source.now))))
