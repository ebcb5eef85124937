use Rattle.std.proofs.Common.{true, false, map}
use Rattle.jsx_tree.specs.View.{forest, inside, view_pat}
use Rattle.jsx_operand.proofs.Bodies.{body_ended}
use Rattle.jsx_operand.proofs.Steps.{passed}
use Rattle.jsx_function.proofs.Functions.{code_placed, no_body, no_brace, no_bracket, no_params, own_only, plain_by, unplain}
use Rattle.jsx_function.proofs.grammar.Within.own_code.Goals as goal

pub returns-in_err-expect-clause-refused : goal.returns-in_err-expect-clause-refused
returns-in_err-expect-clause-refused g c = passed _ c.in_err-expect.ensures.refused c.from_residual.ensures.1 (λ b. no_bracket b)

pub returns-in_err-params-clause-refused : goal.returns-in_err-params-clause-refused
returns-in_err-params-clause-refused g c = passed _ c.in_err-params.ensures.refused c.from_residual-in_err-params.ensures.1 (λ n. no_params c.in_ok-expect.ensures.read n)

pub returns-in_err-expect-2-clause-refused : goal.returns-in_err-expect-2-clause-refused
returns-in_err-expect-2-clause-refused g c = passed _ c.in_err-expect-2.ensures.refused c.from_residual-in_err-expect-2.ensures.1 (λ b. no_brace c.in_ok-expect.ensures.read c.in_ok-params.ensures.read b)

pub returns-in_err-body-clause-refused : goal.returns-in_err-body-clause-refused
returns-in_err-body-clause-refused g c = passed _ c.in_err-body.ensures.refused c.from_residual-in_err-body.ensures.1
    (λ n. no_body c.in_ok-expect.ensures.read c.in_ok-params.ensures.read c.in_ok-expect-2.ensures.read n)

pub returns-then-not-suits-clause-refused : goal.returns-then-not-suits-clause-refused
returns-then-not-suits-clause-refused g c = record {
  bars = λ _ _ _. unplain (own_only c.in_ok-expect.ensures.read c.in_ok-params.ensures.read c.in_ok-expect-2.ensures.read c.in_ok-body.ensures.read)
      (plain_by (forest (map (inside view_pat) c.in_ok-params.field-0.all.items)) c.in_ok-body.body c.in_ok-params.ensures.simple c.suits.ensures c.if-not-suits.true);
}

pub returns-clause-read : goal.returns-clause-read
returns-clause-read g c = own_only c.in_ok-expect.ensures.read c.in_ok-params.ensures.read c.in_ok-expect-2.ensures.read c.in_ok-body.ensures.read

pub returns-clause-plain : goal.returns-clause-plain
returns-clause-plain g c = plain_by (forest (map (inside view_pat) c.in_ok-params.field-0.all.items)) c.in_ok-body.body c.in_ok-params.ensures.simple c.suits.ensures c.if-not-suits.false

pub returns-clause-placed : goal.returns-clause-placed
returns-clause-placed g c = code_placed c.in_ok-expect.ensures.takes c.in_ok-params.ensures.placed c.in_ok-expect-2.ensures.takes c.in_ok-body.ensures.placed

pub returns-clause-ended : goal.returns-clause-ended
returns-clause-ended g c = body_ended c.in_ok-body.ensures.read
