use Rattle.std.proofs.Common.{◌≡◌, false, cond, ◌≤◌, map}
use Rattle.jsx_tree.specs.Grammar.{Lines}
use Rattle.jsx_tree.specs.Told.{tales, told_control}
use Rattle.jsx_tree.specs.View.{forest, inside, view_control}
use Rattle.jsx_tree.proofs.Rows.Turns.{Turn, prepend}
use Rattle.jsx_operand.specs.Around.{around_of}
use Rattle.jsx_token.specs.Here.{place_of, left}
use Rattle.jsx_operand.specs.SoFar.{so_far}
use Rattle.jsx_operand.specs.Spans.{IsPlacedList}
use Rattle.jsx_statement.specs.Cases.{cases_row}
use Rattle.jsx_statement.proofs.Cases.{defaults}
use Rattle.jsx_operand.proofs.Placing.{PlacedFront}
use Rattle.jsx_statement.proofs.grammar.Statements.cases.Given as goal

abbrev pub invariant-cases : goal.invariant-cases
invariant-cases g l = record {
  so_far : Turn so_far (around_of l.context.around) cases_row cases_row (place_of l.fn.lexer) (place_of l.lexer) (prepend (forest (map (inside view_control) l.all.items)));
  defaults : defaults (forest (map (inside view_control) l.all.items)) ≡ cond l.has_default 1 0;
  placed : PlacedFront false Lines (map (inside told_control) l.all.items) (map (inside view_control) l.all.items) l.fn.lexer l.lexer;
  closed : IsPlacedList Lines (tales (map (inside told_control) l.all.items)) (forest (map (inside view_control) l.all.items)) l.fn.lexer l.lexer;
  within : left l.lexer ≤ left l.fn.lexer;
}

abbrev pub decreases-cases : goal.decreases-cases
decreases-cases g l = left l.lexer
