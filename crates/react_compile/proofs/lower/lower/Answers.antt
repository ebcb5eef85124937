use Rattle.std.proofs.Common.{◌∙◌}
use Rattle.jsx_tree.specs.ViewProgram.{view}
use Rattle.react_compile.proofs.Lowering.Visiting.{visited_lower}
use Rattle.react_compile.proofs.lower.lower.Goals as goal

pub returns : goal.returns
returns c = λ o. c.in_ok-visit.ensures.seen ∙ visited_lower (view c.args.program.now) o
