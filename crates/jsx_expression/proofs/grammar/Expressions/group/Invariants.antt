use Rattle.std.proofs.Common.{◌≤◌}
use Rattle.jsx_operand.specs.Around.{around_of}
use Rattle.jsx_token.specs.Here.{left, place_of}
use Rattle.jsx_expression.proofs.Parentheses.{PassesFrom}
use Rattle.jsx_expression.proofs.PlacedArrows.{PlacedFrom}
use Rattle.jsx_expression.proofs.grammar.Expressions.group.Given as goal

abbrev pub invariant-items : goal.invariant-items
invariant-items g l = record {
  so_far : PassesFrom (around_of l.context.around) l.fn.first (place_of l.fn.lexer) l.all.items (place_of l.lexer);
  placed : PlacedFrom l.fn.first l.fn.lexer l.all.items l.lexer;
  within : left l.lexer ≤ left l.fn.lexer;
}

abbrev pub decreases-items : goal.decreases-items
decreases-items g l = left l.lexer
