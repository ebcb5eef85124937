use Rattle.jsx_kit.proofs.Reducing.{Summed-more}
use Rattle.jsx_kit.proofs.reduce.sum_items.Goals as goal

pub loop-item-preserved : goal.loop-item-preserved
loop-item-preserved g c =
    rw c.unwrap_or.ensures
    (Summed-more c.in-Some.item c.hash_item.new.hcx c.new-own.result c.hash_item.new.hasher c.finish-hash.result
    c.loop-item.invariant c.new-own.ensures c.in_ok-hash_item.ensures c.finish-hash.ensures)
