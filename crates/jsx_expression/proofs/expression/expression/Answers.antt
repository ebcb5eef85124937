use Rattle.jsx_tree.proofs.Rows.Steps.{any_barred}
use Rattle.jsx_operand.proofs.Steps.{passed, passed_plain}
use Rattle.jsx_function.proofs.Settled.{settled_only, settled_placed, settled_span}
use Rattle.jsx_expression.proofs.expression.expression.Goals as goal

pub returns-in_err-read-clause-refused : goal.returns-in_err-read-clause-refused
returns-in_err-read-clause-refused g c = passed _ c.in_err-read.ensures.refused c.from_residual.ensures.1 (λ n. n.none)

pub returns-in_err-settle-clause-refused : goal.returns-in_err-settle-clause-refused
returns-in_err-settle-clause-refused g c = passed_plain _ c.in_err-settle.ensures.refused c.from_residual-in_err-settle.ensures.1 (λ e. any_barred (c.in_ok-read.ensures.read.none e))

pub returns-clause-read : goal.returns-clause-read
returns-clause-read g c = settled_only c.in_ok-settle.ensures.expr c.in_ok-settle.ensures.is c.in_ok-read.ensures.read

pub returns-clause-span : goal.returns-clause-span
returns-clause-span g c = settled_span c.in_ok-settle.ensures.expr c.in_ok-read.ensures.span

pub returns-clause-placed : goal.returns-clause-placed
returns-clause-placed g c = settled_placed c.in_ok-settle.ensures.expr c.in_ok-settle.ensures.is c.in_ok-read.ensures.placed
