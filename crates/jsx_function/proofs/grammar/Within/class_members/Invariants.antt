use Rattle.std.proofs.Common.{false, ◌≤◌, map}
use Rattle.jsx_tree.specs.Grammar.{Lines}
use Rattle.jsx_tree.specs.Told.{tales, told_prop}
use Rattle.jsx_tree.specs.View.{forest, inside}
use Rattle.jsx_tree.proofs.Rows.Turns.{Turn, prepend}
use Rattle.jsx_make.specs.Members.{view_class_member}
use Rattle.jsx_token.specs.Here.{place_of, left}
use Rattle.jsx_operand.specs.Around.{around_of}
use Rattle.jsx_operand.specs.SoFar.{so_far}
use Rattle.jsx_operand.specs.Spans.{IsPlacedList}
use Rattle.jsx_operand.proofs.Placing.{PlacedFront}
use Rattle.jsx_function.specs.Classes.{members_row}
use Rattle.jsx_function.proofs.grammar.Within.class_members.Given as goal

abbrev pub invariant-members : goal.invariant-members
invariant-members g l = record {
  so_far : Turn so_far (around_of l.context.around) members_row members_row (place_of l.fn.lexer) (place_of l.lexer) (prepend (forest (map (inside view_class_member) l.all.items)));
  placed : PlacedFront false Lines (map (inside told_prop) l.all.items) (map (inside view_class_member) l.all.items) l.fn.lexer l.lexer;
  closed : IsPlacedList Lines (tales (map (inside told_prop) l.all.items)) (forest (map (inside view_class_member) l.all.items)) l.fn.lexer l.lexer;
  within : left l.lexer ≤ left l.fn.lexer;
}

abbrev pub decreases-members : goal.decreases-members
decreases-members g l = left l.lexer
