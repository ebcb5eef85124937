use Rattle.std.proofs.Common.{◌+◌, ◌*◌, ◌<◌}
use Rattle.jsx_tree.specs.Told.{told_expr}
use Rattle.jsx_tree.specs.View.{view_expr}
use Rattle.jsx_operand.specs.Around.{around_of}
use Rattle.jsx_token.specs.Here.{place_of, left}
use Rattle.jsx_token.specs.Growths.{callee}
use Rattle.jsx_operand.specs.Climbing.{Climbs}
use Rattle.jsx_make.specs.NodeSpans.{expr_at}
use Rattle.jsx_operand.specs.Spans.{IsPlaced, Spans}
use Rattle.jsx_token.specs.Places.{end_of, next_of}
use Rattle.jsx_expression.proofs.grammar.Expressions.+beginning.Given as goal

abbrev pub decreases-beginning : goal.decreases-beginning
decreases-beginning g l = 8 * left l.lexer.now + 2

abbrev pub decreases-open : goal.decreases-open
decreases-open g l = 8 * left l.lexer.now + 7

abbrev pub decreases-callee : goal.decreases-callee
decreases-callee g l = 8 * left l.lexer.now + 3

abbrev pub invariant-callee-members : goal.invariant-callee-members
invariant-callee-members g l = record {
  so_far : Climbs (around_of l.context.around) callee (place_of l.fn.lexer) (view_expr l.expr.value) (place_of l.lexer);
  span : Spans (expr_at l.expr.value) (next_of l.fn.lexer) (end_of l.lexer);
  placed : IsPlaced (told_expr l.expr.value) (view_expr l.expr.value) l.fn.lexer l.lexer;
  within : left l.lexer < left l.fn.lexer;
}

abbrev pub decreases-callee-members : goal.decreases-callee-members
decreases-callee-members g l = left l.lexer

abbrev pub decreases-new_expression : goal.decreases-new_expression
decreases-new_expression g l = 8 * left l.lexer.now + 6
