use Rattle.std.proofs.Common.{◌≡◌, ◌<◌, true}
use Rattle.jsx_operand.specs.Around.{around_of}
use Rattle.jsx_token.specs.Here.{place_of, left}
use Rattle.jsx_token.specs.Growths.{closed}
use Rattle.jsx_make.specs.NodeSpans.{expr_at}
use Rattle.jsx_operand.specs.Spans.{Spans}
use Rattle.jsx_token.specs.Places.{end_of, next_of}
use Rattle.jsx_function.specs.Covers.{IsPlacedCover, Settles}
use Rattle.jsx_expression.proofs.CoverSteps.{IsOngoing, cover_of}
use Rattle.jsx_expression.proofs.grammar.Expressions.expression.Given as goal

abbrev pub invariant-steps : goal.invariant-steps
invariant-steps g l = record {
  so_far : IsOngoing (around_of l.context.around) l.level (place_of l.fn.lexer) (cover_of l.expr l.may_turn) (place_of l.lexer);
  span : Spans (expr_at l.expr.value) (next_of l.fn.lexer) (end_of l.lexer);
  placed : IsPlacedCover (cover_of l.expr l.may_turn) l.fn.lexer l.lexer;
  ended : closed (place_of l.lexer) ≡ true;
  settles : Settles l.level (place_of l.lexer);
  within : left l.lexer < left l.fn.lexer;
}

abbrev pub decreases-steps : goal.decreases-steps
decreases-steps g l = left l.lexer
