use Rattle.std.proofs.Common.{◌≤◌, map, false}
use Rattle.jsx_tree.specs.Kinds.{From, Side}
use Rattle.jsx_tree.specs.Grammar.{Commas}
use Rattle.jsx_tree.specs.Told.{tales, told_specifier}
use Rattle.jsx_tree.specs.View.{forest}
use Rattle.jsx_tree.specs.ViewProgram.{view_specifier}
use Rattle.jsx_token.specs.Here.{place_of, left}
use Rattle.jsx_operand.specs.SoFar.{so_far}
use Rattle.jsx_operand.specs.Around.{around_of}
use Rattle.jsx_operand.specs.Spans.{IsPlacedListAs}
use Rattle.jsx_tree.proofs.Rows.Turns.{Turn, prepend}
use Rattle.jsx_operand.proofs.Placing.{PlacedFront}
use Rattle.jsx_syntax.specs.Specifiers.{specifier_row, written}
use Rattle.jsx_syntax.proofs.specifier.specifiers.Given as goal

abbrev pub invariant-specifiers : goal.invariant-specifiers
invariant-specifiers l = record {
  so_far : Turn so_far (around_of l.context.around) (specifier_row From) (specifier_row From) (place_of l.fn.lexer) (place_of l.lexer) (prepend (written l.all.items));
  placed : (side : Side) → PlacedFront false Commas (map told_specifier l.all.items) (map (view_specifier side) l.all.items) l.fn.lexer l.lexer;
  closed : (side : Side) → IsPlacedListAs false Commas (tales (map told_specifier l.all.items)) (forest (map (view_specifier side) l.all.items)) l.fn.lexer l.lexer;
  within : left l.lexer ≤ left l.fn.lexer;
}

abbrev pub decreases-specifiers : goal.decreases-specifiers
decreases-specifiers l = left l.lexer
