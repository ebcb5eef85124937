use Rattle.std.proofs.Common.{◌+◌, ◌*◌, ◌≤◌, map, false}
use Rattle.jsx_tree.specs.Kinds.{ArrayPat, Binds, ObjectPat, function}
use Rattle.jsx_tree.specs.Grammar.{Commas, Elisions}
use Rattle.jsx_tree.specs.Told.{tales, told_pat}
use Rattle.jsx_tree.specs.View.{forest, inside, view_pat}
use Rattle.jsx_tree.specs.Walk.{tail}
use Rattle.jsx_token.specs.Marks.{row_so_far}
use Rattle.jsx_operand.specs.SoFar.{so_far}
use Rattle.jsx_operand.specs.Around.{around_of}
use Rattle.jsx_token.specs.Here.{place_of, left}
use Rattle.jsx_operand.specs.Spans.{IsPlacedListAs}
use Rattle.jsx_tree.proofs.Rows.Turns.{Turn, prepend}
use Rattle.jsx_operand.proofs.Placing.{PlacedFront}
use Rattle.jsx_function.proofs.grammar.Within.+binding.Given as goal

abbrev pub decreases-binding : goal.decreases-binding
decreases-binding g l = 16 * left l.lexer.now + 1

abbrev pub decreases-element : goal.decreases-element
decreases-element g l = 16 * left l.lexer.now + 2

abbrev pub decreases-rest_pattern : goal.decreases-rest_pattern
decreases-rest_pattern g l = 16 * left l.lexer.now + 2

abbrev pub decreases-pattern_slot : goal.decreases-pattern_slot
decreases-pattern_slot g l = 16 * left l.lexer.now + 3

abbrev pub decreases-pattern_slots : goal.decreases-pattern_slots
decreases-pattern_slots g l = 16 * left l.lexer.now + 4

abbrev pub decreases-array_pattern : goal.decreases-array_pattern
decreases-array_pattern g l = 16 * left l.lexer.now + 5

abbrev pub decreases-pair_pattern : goal.decreases-pair_pattern
decreases-pair_pattern g l = 16 * left l.lexer.now + 3

abbrev pub decreases-pattern_part : goal.decreases-pattern_part
decreases-pattern_part g l = 16 * left l.lexer.now + 4

abbrev pub decreases-pattern_parts : goal.decreases-pattern_parts
decreases-pattern_parts g l = 16 * left l.lexer.now + 5

abbrev pub decreases-object_pattern : goal.decreases-object_pattern
decreases-object_pattern g l = 16 * left l.lexer.now + 6

abbrev pub invariant-pattern_slots-slots : goal.invariant-pattern_slots-slots
invariant-pattern_slots-slots g l = record {
  so_far : Turn so_far (around_of l.context.around) (tail (row_so_far (function (ArrayPat Binds)))) (tail (row_so_far (function (ArrayPat Binds)))) (place_of l.fn.lexer) (place_of l.lexer) (prepend (forest (map (inside view_pat) l.all.items)));
  placed : PlacedFront false Elisions (map (inside told_pat) l.all.items) (map (inside view_pat) l.all.items) l.fn.lexer l.lexer;
  closed : IsPlacedListAs false Elisions (tales (map (inside told_pat) l.all.items)) (forest (map (inside view_pat) l.all.items)) l.fn.lexer l.lexer;
  within : left l.lexer ≤ left l.fn.lexer;
}

abbrev pub decreases-pattern_slots-slots : goal.decreases-pattern_slots-slots
decreases-pattern_slots-slots g l = left l.lexer

abbrev pub invariant-pattern_parts-parts : goal.invariant-pattern_parts-parts
invariant-pattern_parts-parts g l = record {
  so_far : Turn so_far (around_of l.context.around) (tail (row_so_far (function (ObjectPat Binds)))) (tail (row_so_far (function (ObjectPat Binds)))) (place_of l.fn.lexer) (place_of l.lexer) (prepend (forest (map (inside view_pat) l.all.items)));
  placed : PlacedFront false Commas (map (inside told_pat) l.all.items) (map (inside view_pat) l.all.items) l.fn.lexer l.lexer;
  closed : IsPlacedListAs false Commas (tales (map (inside told_pat) l.all.items)) (forest (map (inside view_pat) l.all.items)) l.fn.lexer l.lexer;
  within : left l.lexer ≤ left l.fn.lexer;
}

abbrev pub decreases-pattern_parts-parts : goal.decreases-pattern_parts-parts
decreases-pattern_parts-parts g l = left l.lexer
