use Rattle.jsx_plan.proofs.Planning.{planned, plain}
use Rattle.jsx_print.proofs.expressions.new_target.Goals as goal

pub returns : goal.returns
returns c = planned c.sign.result _ _ c.sign.ensures (simp plain)
