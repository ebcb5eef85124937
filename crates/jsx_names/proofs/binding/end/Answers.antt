use Rattle.std.proofs.Common.{ap, ◌∙◌, reverse}
use Rattle.std.specs.Str.{chars}
use Rattle.jsx_names.specs.Shadowed.{bound_in, restored}
use Rattle.jsx_names.proofs.Shadowing.{top_some, left_some}
use Rattle.jsx_names.proofs.binding.end.Goals as goal

pub returns : goal.returns
returns c = record {
  top = λ es ns b. top_some es c.args.scopes.now.items c.pop.new.self.items c.in-Some.scope c.args.bound.now ns c.in-Some.ensures.items b;
  left = λ es ns b. left_some es c.args.scopes.now.items c.pop.new.self.items c.in-Some.scope c.args.bound.now c.restore.new.bound ns c.in-Some.ensures.items b
      (λ w u. c.in_ok-restore.ensures w u ∙ ap (λ z. restored (reverse z) (chars w.now) (bound_in c.args.bound.now w)) c.deref.ensures.value);
}
