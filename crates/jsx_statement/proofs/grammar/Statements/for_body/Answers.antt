use Rattle.jsx_tree.proofs.Rows.Steps.{bar}
use Rattle.jsx_operand.proofs.Steps.{passed}
use Rattle.jsx_function.proofs.Inside.{passed_as}
use Rattle.jsx_statement.proofs.PlacedNodes.{loop_placed}
use Rattle.jsx_statement.proofs.Loops.{body_row, no_loop_body}
use Rattle.jsx_statement.proofs.grammar.Statements.for_body.Goals as goal

pub returns-in_err-expect-clause-refused : goal.returns-in_err-expect-clause-refused
returns-in_err-expect-clause-refused g c = passed _ c.in_err-expect.ensures.refused c.from_residual.ensures.1 (λ b. bar b)

pub returns-in_err-nested-clause-refused : goal.returns-in_err-nested-clause-refused
returns-in_err-nested-clause-refused g c = passed_as _ c.of_loop.ensures.levels c.in_err-nested.ensures.refused c.from_residual-in_err-nested.ensures.1 (λ b. no_loop_body c.of_loop.ensures.around c.in_ok-expect.ensures.read b)

pub returns-clause-read : goal.returns-clause-read
returns-clause-read g c = body_row c.of_loop.ensures.around c.in_ok-expect.ensures.read c.in_ok-nested.ensures.read

pub returns-clause-placed : goal.returns-clause-placed
returns-clause-placed g c = loop_placed c.in_ok-expect.ensures.takes c.in_ok-nested.ensures.placed
