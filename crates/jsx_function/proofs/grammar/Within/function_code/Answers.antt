use Rattle.jsx_function.proofs.Inside.{passed_as}
use Rattle.jsx_function.proofs.Functions.{code_only, no_code}
use Rattle.jsx_function.proofs.grammar.Within.function_code.Goals as goal

pub returns-in_err-code-clause-refused : goal.returns-in_err-code-clause-refused
returns-in_err-code-clause-refused g c = passed_as _ c.of_function.ensures.levels c.in_err-code.ensures.refused c.from_residual.ensures.1 (λ n. no_code c.of_function.ensures.around n)

pub returns-clause-read : goal.returns-clause-read
returns-clause-read g c = code_only c.of_function.ensures.around c.in_ok-code.ensures.read
