use Rattle.std.proofs.Common.{sym, ◌∙◌}
use Rattle.std.specs.Str.{chars}
use Rattle.jsx_names.specs.Shadowed.{bound_in}
use Rattle.jsx_names.proofs.Shadowing.{restored_none}
use Rattle.jsx_names.proofs.binding.restore.Goals as goal

pub returns : goal.returns
returns c = λ w u. sym (restored_none c.args.saved.now c.loop-at.at (chars w.now) (bound_in c.loop-at.bound w) c.loop-at-test.false) ∙ c.loop-at.invariant.back w u
