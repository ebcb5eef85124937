use Rattle.jsx_tree.specs.View.{view_expr}
use Rattle.jsx_operand.specs.Spans.{pairs_round}
use Rattle.jsx_operand.proofs.operand.+target_of.Given as goal

-- each time a pair of parentheses less
abbrev pub decreases-target_of : goal.decreases-target_of
decreases-target_of l = pairs_round (view_expr l.expr.value)
