use Rattle.std.proofs.Common.{true, false}
use Rattle.jsx_tree.specs.View.{view_pat}
use Rattle.jsx_operand.proofs.Steps.{passed}
use Rattle.jsx_function.proofs.Accessors.{setter_no_body, setter_no_brace, setter_no_bracket, setter_no_close, setter_no_param, setter_own, setter_row_placed, suits_by, unsuited}
use Rattle.jsx_function.proofs.grammar.Within.own_setter.Goals as goal

pub returns-in_err-expect-clause-refused : goal.returns-in_err-expect-clause-refused
returns-in_err-expect-clause-refused g c = passed _ c.in_err-expect.ensures.refused c.from_residual.ensures.1 (λ b. setter_no_bracket b)

pub returns-in_err-param-clause-refused : goal.returns-in_err-param-clause-refused
returns-in_err-param-clause-refused g c = passed _ c.in_err-param.ensures.refused c.from_residual-in_err-param.ensures.1 (λ b. setter_no_param c.in_ok-expect.ensures.read b)

pub returns-in_err-expect-2-clause-refused : goal.returns-in_err-expect-2-clause-refused
returns-in_err-expect-2-clause-refused g c = passed _ c.in_err-expect-2.ensures.refused c.from_residual-in_err-expect-2.ensures.1 (λ b. setter_no_close c.in_ok-expect.ensures.read c.in_ok-param.ensures.read b)

pub returns-in_err-expect-3-clause-refused : goal.returns-in_err-expect-3-clause-refused
returns-in_err-expect-3-clause-refused g c = passed _ c.in_err-expect-3.ensures.refused c.from_residual-in_err-expect-3.ensures.1 (λ b. setter_no_brace c.in_ok-expect.ensures.read c.in_ok-param.ensures.read c.in_ok-expect-2.ensures.read b)

pub returns-in_err-body-clause-refused : goal.returns-in_err-body-clause-refused
returns-in_err-body-clause-refused g c = passed _ c.in_err-body.ensures.refused c.from_residual-in_err-body.ensures.1
    (λ n. setter_no_body c.in_ok-expect.ensures.read c.in_ok-param.ensures.read c.in_ok-expect-2.ensures.read c.in_ok-expect-3.ensures.read n)

pub returns-then-not-suits-clause-refused : goal.returns-then-not-suits-clause-refused
returns-then-not-suits-clause-refused g c = record {
  bars = λ _ _ _. unsuited (setter_own c.in_ok-expect.ensures.read c.in_ok-param.ensures.read c.in_ok-expect-2.ensures.read c.in_ok-expect-3.ensures.read c.in_ok-body.ensures.read)
      (suits_by (view_pat c.in_ok-param.field-0.pattern.value) c.in_ok-body.body c.in_ok-param.ensures.simple c.suits.ensures c.if-not-suits.true);
}

pub returns-clause-read : goal.returns-clause-read
returns-clause-read g c = setter_own c.in_ok-expect.ensures.read c.in_ok-param.ensures.read c.in_ok-expect-2.ensures.read c.in_ok-expect-3.ensures.read c.in_ok-body.ensures.read

pub returns-clause-suits : goal.returns-clause-suits
returns-clause-suits g c = suits_by (view_pat c.in_ok-param.field-0.pattern.value) c.in_ok-body.body c.in_ok-param.ensures.simple c.suits.ensures c.if-not-suits.false

pub returns-clause-placed : goal.returns-clause-placed
returns-clause-placed g c = setter_row_placed c.in_ok-expect.ensures.takes c.in_ok-param.ensures.placed c.in_ok-expect-2.ensures.takes c.in_ok-expect-3.ensures.takes c.in_ok-body.ensures.placed
