use Rattle.jsx_tree.proofs.Rows.Steps.{bar, on}
use Rattle.jsx_operand.proofs.Steps.{passed}
use Rattle.jsx_function.proofs.Accessors.{getter_own, getter_row_placed}
use Rattle.jsx_function.proofs.grammar.Within.own_getter.Goals as goal

pub returns-in_err-expect-clause-refused : goal.returns-in_err-expect-clause-refused
returns-in_err-expect-clause-refused g c = passed _ c.in_err-expect.ensures.refused c.from_residual.ensures.1 (λ b. bar b)

pub returns-in_err-expect-2-clause-refused : goal.returns-in_err-expect-2-clause-refused
returns-in_err-expect-2-clause-refused g c = passed _ c.in_err-expect-2.ensures.refused c.from_residual-in_err-expect-2.ensures.1 (λ b. on c.in_ok-expect.ensures.read (bar b))

pub returns-in_err-expect-3-clause-refused : goal.returns-in_err-expect-3-clause-refused
returns-in_err-expect-3-clause-refused g c = passed _ c.in_err-expect-3.ensures.refused c.from_residual-in_err-expect-3.ensures.1 (λ b. on c.in_ok-expect.ensures.read (on c.in_ok-expect-2.ensures.read (bar b)))

pub returns-in_err-body-clause-refused : goal.returns-in_err-body-clause-refused
returns-in_err-body-clause-refused g c = passed _ c.in_err-body.ensures.refused c.from_residual-in_err-body.ensures.1 (λ n. on c.in_ok-expect.ensures.read (on c.in_ok-expect-2.ensures.read (on c.in_ok-expect-3.ensures.read n)))

pub returns-clause-read : goal.returns-clause-read
returns-clause-read g c = getter_own c.in_ok-expect.ensures.read c.in_ok-expect-2.ensures.read c.in_ok-expect-3.ensures.read c.in_ok-body.ensures.read

pub returns-clause-placed : goal.returns-clause-placed
returns-clause-placed g c = getter_row_placed c.in_ok-expect.ensures.takes c.in_ok-expect-2.ensures.takes c.in_ok-expect-3.ensures.takes c.in_ok-body.ensures.placed
