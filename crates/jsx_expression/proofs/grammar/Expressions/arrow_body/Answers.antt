use Rattle.std.proofs.Common.{arith, refl, sym, ap}
use Rattle.jsx_token.specs.Here.{left, place_of}
use Rattle.jsx_operand.proofs.Bodies.{body_ended}
use Rattle.jsx_operand.proofs.Steps.{passed}
use Rattle.jsx_expression.proofs.ArrowEnds.{block_ended, block_only, block_unvalued, no_inner_block, no_inner_value, value_only, value_unblocked}
use Rattle.jsx_expression.proofs.PlacedArrows.{block_placed, value_placed}
use Rattle.jsx_expression.proofs.grammar.Expressions.arrow_body.Goals as goal

pub returns-in_err-value-clause-refused : goal.returns-in_err-value-clause-refused
returns-in_err-value-clause-refused g c = passed _ c.in_err-value.ensures.refused c.from_residual.ensures.1 (λ b. no_inner_value (record { same = sym (ap place_of (c.take.ensures.stays c.if-not-take.true)); stuck = record { is = c.take.ensures.missing c.if-not-take.true } }) b)

pub returns-then-not-take-clause-read : goal.returns-then-not-take-clause-read
returns-then-not-take-clause-read g c = record {
  only = value_only (record { same = sym (ap place_of (c.take.ensures.stays c.if-not-take.true)); stuck = record { is = c.take.ensures.missing c.if-not-take.true } }) c.in_ok-value.ensures.read;
  other = value_unblocked (record { same = sym (ap place_of (c.take.ensures.stays c.if-not-take.true)); stuck = record { is = c.take.ensures.missing c.if-not-take.true } });
}

pub returns-then-not-take-clause-placed : goal.returns-then-not-take-clause-placed
returns-then-not-take-clause-placed g c = record { row = value_placed (c.take.ensures.stays c.if-not-take.true) c.in_ok-value.ensures.placed }

pub returns-in_err-body-clause-refused : goal.returns-in_err-body-clause-refused
returns-in_err-body-clause-refused g c = passed _ c.in_err-body.ensures.refused c.from_residual-in_err-body.ensures.1 (λ n. no_inner_block (record { is = c.take.ensures.taken c.if-not-take.false; found = refl }) n)

pub returns-clause-read : goal.returns-clause-read
returns-clause-read g c = record {
  only = block_only (record { is = c.take.ensures.taken c.if-not-take.false; found = refl }) c.in_ok-body.ensures.read (body_ended c.in_ok-body.ensures.read) (ap place_of c.ends.ensures);
  other = block_unvalued (record { is = c.take.ensures.taken c.if-not-take.false; found = refl });
}

pub returns-clause-placed : goal.returns-clause-placed
returns-clause-placed g c = record { row = block_placed (c.take.ensures.takes c.if-not-take.false) c.in_ok-body.ensures.placed c.ends.ensures }

pub returns-clause-ended : goal.returns-clause-ended
returns-clause-ended g c = block_ended c.in_ok-body.ensures.read (ap place_of c.ends.ensures)

pub returns-clause-shorter : goal.returns-clause-shorter
returns-clause-shorter g c = omega (arith, ap left c.ends.ensures, c.in_ok-body.ensures.within, c.take.ensures.shorter c.if-not-take.false)
