use Rattle.std.proofs.Common.{arith}
use Rattle.std.proofs.lemmas.Grind.{common_steps}
use Rattle.jsx_base.proofs.multi_span.MultiSpan.replace.Goals as goal

pub returns-then-in_primary-clause-primary : goal.returns-then-in_primary-clause-primary
returns-then-in_primary-clause-primary c = grind (arith, common_steps)

pub returns-then-in_primary-clause-labels : goal.returns-then-in_primary-clause-labels
returns-then-in_primary-clause-labels c = grind (arith, common_steps)

pub returns-else-in_primary-clause-primary : goal.returns-else-in_primary-clause-primary
returns-else-in_primary-clause-primary c = grind (arith, common_steps)

pub returns-else-in_primary-clause-labels : goal.returns-else-in_primary-clause-labels
returns-else-in_primary-clause-labels c = grind (arith, common_steps)
