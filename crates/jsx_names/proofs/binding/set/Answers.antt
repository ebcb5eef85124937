use Rattle.std.proofs.Common.{ap, ◌∙◌}
use Rattle.std.specs.Prelude.{None}
use Rattle.std.specs.Option.{unwrap_or}
use Rattle.jsx_names.proofs.Shadowing.{set_name}
use Rattle.jsx_names.proofs.binding.set.Goals as goal

pub returns : goal.returns
returns c = λ v u. ap (λ z. unwrap_or z None) (c.in_ok-insert.ensures.updates.0 v) ∙ set_name c.args.name.now v.now c.args.scope _ c.utf8.name u
