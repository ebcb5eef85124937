use Rattle.std.proofs.Common.{◌+◌, ◌*◌}
use Rattle.jsx_tree.specs.View.{view_expr}
use Rattle.jsx_operand.specs.Spans.{pairs_round}
use Rattle.jsx_operand.proofs.argument.+place.Given as goal

abbrev pub decreases-place : goal.decreases-place
decreases-place l = 2 * pairs_round (view_expr l.expr.now.value) + 1

abbrev pub decreases-place_node : goal.decreases-place_node
decreases-place_node l = 2 * pairs_round (view_expr l.expr.now)
