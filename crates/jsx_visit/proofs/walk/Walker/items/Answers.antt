use Rattle.jsx_tree.specs.ViewProgram.{view_item}
use Rattle.jsx_tree.specs.Told.{told_item}
use Rattle.jsx_visit.specs.Visit.{visited}
use Rattle.jsx_visit.proofs.Lists.{seen_next}
use Rattle.jsx_visit.proofs.Keeping.{kept_next}
use Rattle.jsx_visit.proofs.walk.Walker.items.Goals as goal

pub loop-item-preserved : goal.loop-item-preserved
loop-item-preserved g c = record {
  seen = seen_next view_item (visited g.V.Visitor.made) _ c.loop-item.item-items c.loop-item.item-index c.item-item.result _ c.loop-item-test.true c.loop-item.auto.item-items c.loop-item.invariant.seen c.in_ok-item.ensures.seen;
  places = kept_next g.V.Visitor.keeps told_item _ c.loop-item.item-items c.loop-item.item-index c.item-item.result _ c.loop-item.invariant.places c.in_ok-item.ensures.places;
}
