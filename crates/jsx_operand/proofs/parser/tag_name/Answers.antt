use Rattle.std.proofs.Common.{refl, sym, ◌∙◌}
use Rattle.std.specs.Str.{chars}
use Rattle.jsx_operand.proofs.Homes.{tags, deep_leaf, only_leaf, no_leaf, unfit_leaf}
use Rattle.jsx_operand.proofs.Steps.{passed}
use Rattle.jsx_operand.proofs.parser.tag_name.Goals as goal

pub returns-in_default-clause-refused : goal.returns-in_default-clause-refused
returns-in_default-clause-refused c = record { bars = λ at e _. no_leaf tags c.in_default.ensures.missing }

pub returns-then-not-is_plain_tag-clause-refused : goal.returns-then-not-is_plain_tag-clause-refused
returns-then-not-is_plain_tag-clause-refused c = record { bars = λ at e _. unfit_leaf (chars c.in-Some.raw.now) tags c.in-Some.ensures.taken refl (sym c.is_plain_tag.ensures ∙ c.if-not-is_plain_tag.true) }

pub returns-in_err-counted-clause-refused : goal.returns-in_err-counted-clause-refused
returns-in_err-counted-clause-refused c = passed _ c.in_err-counted.ensures.refused c.from_residual.ensures.1 (λ b. deep_leaf tags b)

pub returns-clause-read : goal.returns-clause-read
returns-clause-read c = only_leaf tags refl (sym c.is_plain_tag.ensures ∙ c.if-not-is_plain_tag.false) c.in-Some.ensures.whole c.in-Some.ensures.taken refl
