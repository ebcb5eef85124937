use Rattle.std.proofs.Common.{refl}
use Rattle.std.specs.Ordering.{nat_cmp}
use Rattle.std.specs.BTreeMap.{get}
use Rattle.jsx_names.specs.Shadowed.{held}
use Rattle.jsx_names.proofs.Shadowing.{begun_as}
use Rattle.jsx_names.proofs.binding.begin.Goals as goal

pub returns : goal.returns
returns c = λ es n ns g b p. begun_as es c.args.is_behind c.args.scope.1 c.args.scope.0 c.args.scopes.now.items c.push.new.self.items _ c.args.bound.now c.show_seen.new.bound n ns (held (get nat_cmp c.args.lists.now c.args.scope.0))
    c.in_ok-push.ensures.items refl refl (g c.args.scope.0) b p (c.in_ok-show_seen.ensures.bound ns b.binds) (c.in_ok-show_seen.ensures.saved ns b.binds c.new-saved.ensures.items)
