use Rattle.std.proofs.Common.{refl}
use Rattle.jsx_operand.proofs.Places.{spans_from}
use Rattle.jsx_operand.proofs.Placing.{placed_as}
use Rattle.jsx_operand.proofs.Steps.{passed}
use Rattle.jsx_expression.specs.Arrows.{is_block, view_end, view_params}
use Rattle.jsx_expression.proofs.ArrowEnds.{agreed_plain, no_end, unagreed}
use Rattle.jsx_expression.proofs.PlacedArrows.{arrow_placed}
use Rattle.jsx_expression.proofs.grammar.Expressions.arrow.Goals as goal

pub returns-in_err-body-clause-refused : goal.returns-in_err-body-clause-refused
returns-in_err-body-clause-refused g c = passed _ c.in_err-body.ensures.refused c.from_residual.ensures.1 (λ n. no_end (view_params c.args.params) n)

pub returns-then-not-agrees-clause-refused : goal.returns-then-not-agrees-clause-refused
returns-then-not-agrees-clause-refused g c = record { bars = λ _ _ _. unagreed (view_params c.args.params) c.in_ok-body.body c.requires.simple c.agrees.ensures c.if-not-agrees.true c.in_ok-body.ensures.read }

pub returns-clause-read : goal.returns-clause-read
returns-clause-read g c = record {
  block = is_block c.in_ok-body.body;
  end' = view_end c.in_ok-body.body;
  is = c.in_ok-arrow_of.ensures.view;
  read = c.in_ok-body.ensures.read;
  plain = agreed_plain (view_params c.args.params) c.in_ok-body.body c.requires.simple c.agrees.ensures c.if-not-agrees.false c.in_ok-body.ensures.read;
}

pub returns-clause-placed : goal.returns-clause-placed
returns-clause-placed g c = record {
  on = λ w a sign begins front. placed_as c.in_ok-arrow_of.ensures.told c.in_ok-arrow_of.ensures.view (arrow_placed (is_block c.in_ok-body.body) sign front c.in_ok-body.ensures.placed.row (spans_from c.span_to-span.ensures refl begins refl));
}
