use Rattle.jsx_function.proofs.Inside.{passed_as}
use Rattle.jsx_function.proofs.Keyed.{no_code_in, row_in}
use Rattle.jsx_function.proofs.grammar.Within.method_code.Goals as goal

pub returns-in_err-code-clause-refused : goal.returns-in_err-code-clause-refused
returns-in_err-code-clause-refused g c = passed_as _ c.of_method.ensures.levels c.in_err-code.ensures.refused c.from_residual.ensures.1 (λ n. no_code_in c.of_method.ensures.around n)

pub returns-clause-read : goal.returns-clause-read
returns-clause-read g c = row_in c.of_method.ensures.around c.in_ok-code.ensures.read
