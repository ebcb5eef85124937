use Rattle.std.proofs.Common.{◌≡◌, true, false, ◌≤◌, map}
use Rattle.jsx_tree.specs.Grammar.{Lines}
use Rattle.jsx_tree.specs.Told.{tales, told_stmt}
use Rattle.jsx_tree.specs.View.{forest, inside, view_stmt}
use Rattle.jsx_tree.proofs.Rows.Turns.{Turn, prepend}
use Rattle.jsx_operand.specs.Around.{around_of}
use Rattle.jsx_token.specs.Here.{place_of, left}
use Rattle.jsx_operand.specs.SoFar.{so_far}
use Rattle.jsx_operand.specs.Spans.{IsPlacedList}
use Rattle.jsx_statement.specs.Inners.{are_inner}
use Rattle.jsx_statement.proofs.Blocks.{braced}
use Rattle.jsx_operand.proofs.Placing.{PlacedFront}
use Rattle.jsx_statement.proofs.grammar.Statements.statements.Given as goal

abbrev pub invariant-statements : goal.invariant-statements
invariant-statements g l = record {
  so_far : Turn so_far (around_of l.context.around) braced braced (place_of l.fn.lexer) (place_of l.lexer) (prepend (forest (map (inside view_stmt) l.all.items)));
  inner : are_inner (around_of l.context.around) (forest (map (inside view_stmt) l.all.items)) ≡ true;
  placed : PlacedFront false Lines (map (inside told_stmt) l.all.items) (map (inside view_stmt) l.all.items) l.fn.lexer l.lexer;
  closed : IsPlacedList Lines (tales (map (inside told_stmt) l.all.items)) (forest (map (inside view_stmt) l.all.items)) l.fn.lexer l.lexer;
  within : left l.lexer ≤ left l.fn.lexer;
}

abbrev pub decreases-statements : goal.decreases-statements
decreases-statements g l = left l.lexer
