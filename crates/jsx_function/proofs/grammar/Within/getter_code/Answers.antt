use Rattle.jsx_function.proofs.Inside.{passed_as}
use Rattle.jsx_function.proofs.Keyed.{no_row_in, row_in}
use Rattle.jsx_function.proofs.grammar.Within.getter_code.Goals as goal

pub returns-in_err-body-clause-refused : goal.returns-in_err-body-clause-refused
returns-in_err-body-clause-refused g c = passed_as _ c.of_method.ensures.levels c.in_err-body.ensures.refused c.from_residual.ensures.1 (λ n. no_row_in c.of_method.ensures.around n)

pub returns-clause-read : goal.returns-clause-read
returns-clause-read g c = row_in c.of_method.ensures.around c.in_ok-body.ensures.read
