use Rattle.std.proofs.Common.{◌≡◌, ◌≤◌, map, false}
use Rattle.jsx_tree.specs.Grammar.{Commas}
use Rattle.jsx_tree.specs.StaticRules.{all_of, is_word}
use Rattle.jsx_tree.specs.Told.{tales, told_pat}
use Rattle.jsx_tree.specs.View.{forest, inside, view_pat}
use Rattle.jsx_operand.specs.SoFar.{so_far}
use Rattle.jsx_operand.specs.Around.{around_of}
use Rattle.jsx_token.specs.Here.{place_of, left}
use Rattle.jsx_operand.specs.Spans.{IsPlacedListAs}
use Rattle.jsx_tree.proofs.Rows.Turns.{Turn, prepend}
use Rattle.jsx_operand.proofs.Placing.{PlacedFront}
use Rattle.jsx_function.specs.Functions.{params_row}
use Rattle.jsx_function.proofs.grammar.Within.parameters.Given as goal

abbrev pub invariant-parameters : goal.invariant-parameters
invariant-parameters g l = record {
  so_far : Turn so_far (around_of l.context.around) params_row params_row (place_of l.fn.lexer) (place_of l.lexer) (prepend (forest (map (inside view_pat) l.all.items)));
  simple : l.are_simple ≡ all_of is_word (forest (map (inside view_pat) l.all.items));
  placed : PlacedFront false Commas (map (inside told_pat) l.all.items) (map (inside view_pat) l.all.items) l.fn.lexer l.lexer;
  closed : IsPlacedListAs false Commas (tales (map (inside told_pat) l.all.items)) (forest (map (inside view_pat) l.all.items)) l.fn.lexer l.lexer;
  within : left l.lexer ≤ left l.fn.lexer;
}

abbrev pub decreases-parameters : goal.decreases-parameters
decreases-parameters g l = left l.lexer
