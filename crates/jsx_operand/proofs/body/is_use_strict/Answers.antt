use Rattle.std.proofs.Common.{◌∙◌}
use Rattle.jsx_operand.proofs.Bodies.{any_strict}
use Rattle.jsx_operand.proofs.body.is_use_strict.Goals as goal

pub returns : goal.returns
returns c = c.contains.ensures.value ∙ any_strict c.args.raw.now c.utf8.raw
