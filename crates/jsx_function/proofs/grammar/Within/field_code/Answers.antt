use Rattle.jsx_function.proofs.Inside.{passed_as}
use Rattle.jsx_function.proofs.Keyed.{no_row_in, row_in}
use Rattle.jsx_function.proofs.grammar.Within.field_code.Goals as goal

pub returns-in_err-value-clause-refused : goal.returns-in_err-value-clause-refused
returns-in_err-value-clause-refused g c = passed_as _ c.of_field.ensures.levels c.in_err-value.ensures.refused c.from_residual.ensures.1 (λ n. no_row_in c.of_field.ensures.around n)

pub returns-clause-read : goal.returns-clause-read
returns-clause-read g c = row_in c.of_field.ensures.around c.in_ok-value.ensures.read
