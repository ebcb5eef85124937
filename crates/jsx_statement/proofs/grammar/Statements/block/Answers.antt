use Rattle.std.proofs.Common.{refl, ◌∙◌}
use Rattle.jsx_statement.proofs.Inners.{block_built}
use Rattle.jsx_operand.proofs.Steps.{passed}
use Rattle.jsx_operand.proofs.Placing.{placed_as}
use Rattle.jsx_operand.proofs.Places.{spans_from}
use Rattle.jsx_statement.proofs.PlacedNodes.{block_placed}
use Rattle.jsx_statement.proofs.grammar.Statements.block.Goals as goal

pub returns-in_err-body-clause-refused : goal.returns-in_err-body-clause-refused
returns-in_err-body-clause-refused g c = passed _ c.in_err-body.ensures.refused c.from_residual.ensures.1 (λ n. n)

pub returns-clause-read : goal.returns-clause-read
returns-clause-read g c = block_built c.in_ok-body.ensures.inner c.in_ok-body.ensures.read c.in_ok-block.ensures.view

pub returns-clause-placed : goal.returns-clause-placed
returns-clause-placed g c = record { on = λ w sign begins. placed_as c.in_ok-block.ensures.told c.in_ok-block.ensures.view (block_placed sign c.in_ok-body.ensures.placed (spans_from c.span_to.ensures refl (c.last_place-lo.ensures ∙ begins) refl)) }
