use Rattle.std.proofs.Common.{◌≡◌, map}
use Rattle.jsx_tree.specs.ViewProgram.{view_item}
use Rattle.jsx_tree.specs.Told.{told_item}
use Rattle.jsx_visit.specs.Visit.{visited}
use Rattle.jsx_visit.specs.Parts.{kept_each}
use Rattle.jsx_base.proofs.Spans.{MappedTo}
use Rattle.jsx_visit.proofs.walk.Walker.items.Given as goal

abbrev pub invariant-loop-item : goal.invariant-loop-item
invariant-loop-item g l = record {
  seen : MappedTo (visited g.V.Visitor.made) l.item-index (map view_item l.initial.item-items) (map view_item l.item-items);
  places : kept_each g.V.Visitor.keeps told_item l.item-items ≡ kept_each g.V.Visitor.keeps told_item l.initial.item-items;
}
