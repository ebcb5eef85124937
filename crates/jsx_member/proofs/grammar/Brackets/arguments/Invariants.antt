use Rattle.std.proofs.Common.{◌≤◌, map, true}
use Rattle.jsx_tree.specs.Kinds.{Call, expression}
use Rattle.jsx_tree.specs.Grammar.{Commas}
use Rattle.jsx_tree.specs.Told.{tales, told_expr}
use Rattle.jsx_tree.specs.View.{forest, inside, view_expr}
use Rattle.jsx_tree.specs.Walk.{tail}
use Rattle.jsx_token.specs.Marks.{row_so_far}
use Rattle.jsx_operand.specs.SoFar.{so_far}
use Rattle.jsx_operand.specs.Around.{around_of}
use Rattle.jsx_token.specs.Here.{place_of, left}
use Rattle.jsx_operand.specs.Spans.{IsPlacedListAs}
use Rattle.jsx_tree.proofs.Rows.Turns.{Turn, prepend}
use Rattle.jsx_operand.proofs.Placing.{PlacedFront}
use Rattle.jsx_member.proofs.grammar.Brackets.arguments.Given as goal

abbrev pub invariant-arguments : goal.invariant-arguments
invariant-arguments g l = record {
  so_far : Turn so_far (around_of l.context.around) (tail (tail (row_so_far (expression Call)))) (tail (tail (row_so_far (expression Call)))) (place_of l.fn.lexer) (place_of l.lexer) (prepend (forest (map (inside view_expr) l.all.items)));
  placed : PlacedFront true Commas (map (inside told_expr) l.all.items) (map (inside view_expr) l.all.items) l.fn.lexer l.lexer;
  closed : IsPlacedListAs true Commas (tales (map (inside told_expr) l.all.items)) (forest (map (inside view_expr) l.all.items)) l.fn.lexer l.lexer;
  within : left l.lexer ≤ left l.fn.lexer;
}

abbrev pub decreases-arguments : goal.decreases-arguments
decreases-arguments g l = left l.lexer
