use Rattle.std.proofs.Common.{false, map}
use Rattle.jsx_tree.specs.Nonterminals.{Item}
use Rattle.jsx_tree.specs.Grammar.{TopLines}
use Rattle.jsx_tree.specs.Told.{tales, told_item}
use Rattle.jsx_tree.specs.View.{forest}
use Rattle.jsx_tree.specs.ViewProgram.{view_item}
use Rattle.jsx_token.specs.Here.{place_of, left}
use Rattle.jsx_operand.specs.Around.{around_of}
use Rattle.jsx_operand.specs.SoFar.{so_far}
use Rattle.jsx_operand.specs.Spans.{IsPlacedList}
use Rattle.jsx_tree.proofs.Rows.Lines.{Onto}
use Rattle.jsx_operand.proofs.Placing.{PlacedFront}
use Rattle.jsx_syntax.proofs.module.items.Given as goal

abbrev pub invariant-items : goal.invariant-items
invariant-items l = record {
  so_far : Onto so_far (around_of l.context.around) Item (place_of l.fn.lexer) (place_of l.lexer) (forest (map view_item l.all.items));
  placed : PlacedFront false TopLines (map told_item l.all.items) (map view_item l.all.items) l.fn.lexer l.lexer;
  closed : IsPlacedList TopLines (tales (map told_item l.all.items)) (forest (map view_item l.all.items)) l.fn.lexer l.lexer;
}

abbrev pub decreases-items : goal.decreases-items
decreases-items l = left l.lexer
