use Rattle.std.proofs.Common.{false, map}
use Rattle.jsx_tree.specs.Nonterminals.{Stmt}
use Rattle.jsx_tree.specs.Grammar.{TopLines}
use Rattle.jsx_tree.specs.Told.{tales, told_stmt}
use Rattle.jsx_tree.specs.View.{forest, inside, view_stmt}
use Rattle.jsx_token.specs.Here.{place_of, left}
use Rattle.jsx_operand.specs.Around.{around_of}
use Rattle.jsx_operand.specs.SoFar.{so_far}
use Rattle.jsx_operand.specs.Spans.{IsPlacedList}
use Rattle.jsx_tree.proofs.Rows.Lines.{Onto}
use Rattle.jsx_operand.proofs.Placing.{PlacedFront}
use Rattle.jsx_syntax.proofs.module.statements.Given as goal

abbrev pub invariant-statements : goal.invariant-statements
invariant-statements l = record {
  so_far : Onto so_far (around_of l.context.around) Stmt (place_of l.fn.lexer) (place_of l.lexer) (forest (map (inside view_stmt) l.all.items));
  placed : PlacedFront false TopLines (map (inside told_stmt) l.all.items) (map (inside view_stmt) l.all.items) l.fn.lexer l.lexer;
  closed : IsPlacedList TopLines (tales (map (inside told_stmt) l.all.items)) (forest (map (inside view_stmt) l.all.items)) l.fn.lexer l.lexer;
}

abbrev pub decreases-statements : goal.decreases-statements
decreases-statements l = left l.lexer
