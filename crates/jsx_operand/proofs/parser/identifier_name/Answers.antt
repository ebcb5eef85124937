use Rattle.std.proofs.Common.{refl}
use Rattle.jsx_operand.proofs.Homes.{names, deep_leaf, only_leaf, no_leaf}
use Rattle.jsx_operand.proofs.Steps.{passed}
use Rattle.jsx_operand.proofs.parser.identifier_name.Goals as goal

pub returns-in_err-counted-clause-refused : goal.returns-in_err-counted-clause-refused
returns-in_err-counted-clause-refused c = passed _ c.in_err-counted.ensures.refused c.from_residual.ensures.1 (λ b. deep_leaf names b)

pub returns-clause-read : goal.returns-clause-read
returns-clause-read c = only_leaf names refl refl c.in-Some.ensures.whole c.in-Some.ensures.taken refl

pub returns-in_default-clause-refused : goal.returns-in_default-clause-refused
returns-in_default-clause-refused c = record { bars = λ at e _. no_leaf names c.in_default.ensures.missing }
