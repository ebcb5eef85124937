use Rattle.std.proofs.Common.{true, refl, sym, ◌∙◌, ap}
use Rattle.std.specs.Prelude.{◌&&◌}
use Rattle.std.specs.Str.{chars}
use Rattle.jsx_operand.proofs.Homes.{bindings, deep_leaf, only_leaf, no_leaf, unfit_leaf}
use Rattle.jsx_operand.proofs.PlacedExpressions.{name_placed}
use Rattle.jsx_operand.proofs.Steps.{passed}
use Rattle.jsx_operand.proofs.parser.bound_name.Goals as goal

pub returns-in_default-clause-refused : goal.returns-in_default-clause-refused
returns-in_default-clause-refused c = record { bars = λ at e _. no_leaf bindings c.in_default.ensures.missing }

pub returns-then-not-is_bound-clause-refused : goal.returns-then-not-is_bound-clause-refused
returns-then-not-is_bound-clause-refused c = record { bars = λ at e _. unfit_leaf (chars c.in-Some.raw.now) bindings c.in-Some.ensures.taken refl (ap (λ b. b && true) (sym c.is_bound.ensures ∙ c.if-not-is_bound.true)) }

pub returns-in_err-counted-clause-refused : goal.returns-in_err-counted-clause-refused
returns-in_err-counted-clause-refused c = passed _ c.in_err-counted.ensures.refused c.from_residual.ensures.1 (λ b. deep_leaf bindings b)

pub returns-clause-read : goal.returns-clause-read
returns-clause-read c = only_leaf bindings (sym c.is_bound.ensures ∙ c.if-not-is_bound.false) refl c.in-Some.ensures.whole c.in-Some.ensures.taken refl

pub returns-clause-placed : goal.returns-clause-placed
returns-clause-placed c = name_placed c.in-Some.ensures.takes (c.last_place.ensures ∙ c.in-Some.ensures.begins)
