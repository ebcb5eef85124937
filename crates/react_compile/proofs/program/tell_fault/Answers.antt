use Rattle.std.proofs.Common.{◌∙◌}
use Rattle.react_compile.proofs.Sinks.{gains_same, gains_same_prefix}
use Rattle.react_compile.proofs.program.tell_fault.Goals as goal

pub returns-in-Ok-clause-said : goal.returns-in-Ok-clause-said
returns-in-Ok-clause-said g c = λ f. gains_same _ _ _ _ (c.as_str.ensures.value ∙ c.in-Ok.ensures) (c.tell.ensures.said f)

pub returns-in-Ok-clause-prefix : goal.returns-in-Ok-clause-prefix
returns-in-Ok-clause-prefix g c = λ w. gains_same_prefix _ _ _ _ (c.as_str.ensures.value ∙ c.in-Ok.ensures) (c.tell.ensures.prefix w)
