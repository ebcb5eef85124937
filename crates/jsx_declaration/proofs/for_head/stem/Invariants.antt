use Rattle.std.proofs.Common.{◌<◌}
use Rattle.jsx_token.specs.Here.{place_of, left}
use Rattle.jsx_token.specs.Places.{end_of, next_of}
use Rattle.jsx_make.specs.NodeSpans.{expr_at}
use Rattle.jsx_operand.specs.Around.{around_of}
use Rattle.jsx_operand.specs.Spans.{Spans}
use Rattle.jsx_declaration.specs.Heads.{IsPlacedStem}
use Rattle.jsx_expression.proofs.CoverSteps.{cover_of}
use Rattle.jsx_declaration.proofs.Stems.{Stem}
use Rattle.jsx_declaration.proofs.for_head.stem.Given as goal

abbrev pub invariant-steps : goal.invariant-steps
invariant-steps g l = record {
  stem : Stem (around_of l.context.around) (place_of l.fn.lexer) (cover_of l.expr l.may_turn) (place_of l.lexer);
  span : Spans (expr_at l.expr.value) (next_of l.fn.lexer) (end_of l.lexer);
  placed : IsPlacedStem (cover_of l.expr l.may_turn) l.fn.lexer l.lexer;
  within : left l.lexer < left l.fn.lexer;
}

abbrev pub decreases-steps : goal.decreases-steps
decreases-steps g l = left l.lexer
