use Rattle.std.proofs.Common.{refl, ◌∙◌}
use Rattle.jsx_function.proofs.Inside.{passed_as}
use Rattle.jsx_operand.proofs.Steps.{passed}
use Rattle.jsx_operand.proofs.Places.{spans_from}
use Rattle.jsx_operand.proofs.PlacedExpressions.{class_declaration_row}
use Rattle.jsx_operand.proofs.Placing.{placed_as}
use Rattle.jsx_declaration.proofs.Controls.{barred_in, only_in}
use Rattle.jsx_declaration.proofs.Declarations.{class_built, no_class, no_class_name}
use Rattle.jsx_declaration.proofs.function.class_declaration.Goals as goal

pub returns-in_err-name-clause-refused : goal.returns-in_err-name-clause-refused
returns-in_err-name-clause-refused g c = passed_as _ c.of_class.ensures.levels c.in_err-name.ensures.refused c.from_residual.ensures.1 (λ b. no_class_name (barred_in c.of_class.ensures.around b))

pub returns-in_err-heritage-clause-refused : goal.returns-in_err-heritage-clause-refused
returns-in_err-heritage-clause-refused g c = passed _ c.in_err-heritage.ensures.refused c.from_residual-in_err-heritage.ensures.1 (λ n. no_class (only_in c.of_class.ensures.around c.in_ok-name.ensures.read) n)

pub returns-clause-read : goal.returns-clause-read
returns-clause-read g c = class_built (only_in c.of_class.ensures.around c.in_ok-name.ensures.read) c.in_ok-heritage.ensures.read c.in_ok-heritage.ensures.kept c.in_ok-class_declaration.ensures.view

pub returns-clause-placed : goal.returns-clause-placed
returns-clause-placed g c = record {
  on = λ w sign begins. placed_as c.in_ok-class_declaration.ensures.told c.in_ok-class_declaration.ensures.view (class_declaration_row sign c.in_ok-name.ensures.placed c.in_ok-heritage.ensures.placed (spans_from c.span_to-span.ensures refl (c.last_place-lo.ensures ∙ begins) refl));
}
