use Rattle.jsx_operand.proofs.Steps.{plainly}
use Rattle.jsx_operand.proofs.template.whole_template.Goals as goal

pub returns-in_err-piece-clause-refused : goal.returns-in_err-piece-clause-refused
returns-in_err-piece-clause-refused c = plainly _ c.in_err-piece.ensures.refused c.from_residual.ensures.1 (λ n. n)
