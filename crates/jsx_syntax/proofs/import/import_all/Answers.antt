use Rattle.std.proofs.Common.{refl, ◌∙◌}
use Rattle.jsx_tree.proofs.Rows.Steps.{bar, built_2, on}
use Rattle.jsx_operand.proofs.Places.{spans_from}
use Rattle.jsx_operand.proofs.Steps.{passed}
use Rattle.jsx_syntax.proofs.PlacedItems.{all_placed}
use Rattle.jsx_syntax.proofs.import.import_all.Goals as goal

pub returns-in_err-expect-clause-refused : goal.returns-in_err-expect-clause-refused
returns-in_err-expect-clause-refused c = passed _ c.in_err-expect.ensures.refused c.from_residual.ensures.1 (λ b. bar b)

pub returns-in_err-name-clause-refused : goal.returns-in_err-name-clause-refused
returns-in_err-name-clause-refused c = passed _ c.in_err-name.ensures.refused c.from_residual-in_err-name.ensures.1 (λ b. on c.in_ok-expect.ensures.read (bar b))

pub returns-clause-read : goal.returns-clause-read
returns-clause-read c = built_2 refl c.in_ok-expect.ensures.read c.in_ok-name.ensures.read refl

pub returns-clause-placed : goal.returns-clause-placed
returns-clause-placed c = record { on = λ w sign begins. all_placed sign c.in_ok-expect.ensures.takes c.in_ok-name.ensures.placed (spans_from c.span_to.ensures refl (c.last_place-lo.ensures ∙ begins) refl) }
