use Rattle.jsx_kit.proofs.Reducing.{InTurn-more, InTurn-none}
use Rattle.jsx_kit.proofs.reduce.feed_items.Goals as goal

pub loop-item-init : goal.loop-item-init
loop-item-init g c = InTurn-none _ _ _ _

pub loop-item-preserved : goal.loop-item-preserved
loop-item-preserved g c = InTurn-more c.in-Some.item _ _ c.loop-item.invariant c.in_ok-hash_item.ensures
