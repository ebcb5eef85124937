use Rattle.std.proofs.Common.{refl, ◌∙◌}
use Rattle.jsx_operand.proofs.Homes.{strings, deep_leaf, only_leaf, no_leaf}
use Rattle.jsx_operand.proofs.Placing.{leaf_is}
use Rattle.jsx_operand.proofs.Steps.{passed}
use Rattle.jsx_operand.proofs.parser.string.Goals as goal

pub returns-in_err-counted-clause-refused : goal.returns-in_err-counted-clause-refused
returns-in_err-counted-clause-refused c = passed _ c.in_err-counted.ensures.refused c.from_residual.ensures.1 (λ b. deep_leaf strings b)

pub returns-clause-read : goal.returns-clause-read
returns-clause-read c = only_leaf strings refl refl c.in-Some.ensures.whole c.in-Some.ensures.taken refl

pub returns-clause-placed : goal.returns-clause-placed
returns-clause-placed c = leaf_is refl refl refl (c.last_place-lo.ensures ∙ c.in-Some.ensures.begins, tt) c.in-Some.ensures.takes

pub returns-in_default-clause-refused : goal.returns-in_default-clause-refused
returns-in_default-clause-refused c = record { bars = λ at e _. no_leaf strings c.in_default.ensures.missing }
