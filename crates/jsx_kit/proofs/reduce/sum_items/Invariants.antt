use Rattle.jsx_kit.proofs.Reducing.{Summed}
use Rattle.jsx_kit.proofs.reduce.sum_items.Given as goal

abbrev pub invariant-loop-item : goal.invariant-loop-item
invariant-loop-item g l = Summed g.T.Item.fed_item g.T.Item.item_is_said l.yielded l.fn.hcx l.hcx l.sum
