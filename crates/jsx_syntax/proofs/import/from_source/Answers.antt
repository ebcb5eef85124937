use Rattle.jsx_tree.proofs.Rows.Steps.{bar, on, then'}
use Rattle.jsx_operand.proofs.Steps.{passed}
use Rattle.jsx_syntax.proofs.PlacedItems.{from_placed}
use Rattle.jsx_syntax.proofs.import.from_source.Goals as goal

pub returns-in_err-expect-clause-refused : goal.returns-in_err-expect-clause-refused
returns-in_err-expect-clause-refused c = passed _ c.in_err-expect.ensures.refused c.from_residual.ensures.1 (λ b. bar b)

pub returns-in_err-source-clause-refused : goal.returns-in_err-source-clause-refused
returns-in_err-source-clause-refused c = passed _ c.in_err-source.ensures.refused c.from_residual-in_err-source.ensures.1 (λ n. on c.in_ok-expect.ensures.read n)

pub returns-clause-read : goal.returns-clause-read
returns-clause-read c = then' c.in_ok-expect.ensures.read c.in_ok-source.ensures.read

pub returns-clause-placed : goal.returns-clause-placed
returns-clause-placed c = from_placed c.in_ok-expect.ensures.takes c.in_ok-source.ensures.placed
