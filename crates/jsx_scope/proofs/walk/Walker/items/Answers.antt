use Rattle.std.proofs.Common.{false}
use Rattle.jsx_tree.specs.ViewProgram.{view_item}
use Rattle.jsx_scope.specs.declared.place.Place.TheVariants as place
use Rattle.jsx_scope.specs.Walk.{walk}
use Rattle.jsx_scope.proofs.Lists.{seen_next}
use Rattle.jsx_scope.proofs.walk.Walker.items.Goals as goal

pub loop-item-preserved : goal.loop-item-preserved
loop-item-preserved c = seen_next view_item (walk (place.Level 0) false) _ c.loop-item.item-items c.loop-item.item-index c.item-item.result _ c.loop-item-test.true c.loop-item.auto.item-items c.loop-item.invariant c.in_ok-item.ensures
