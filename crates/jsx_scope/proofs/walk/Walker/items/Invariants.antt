use Rattle.std.proofs.Common.{map, false}
use Rattle.jsx_tree.specs.ViewProgram.{view_item}
use Rattle.jsx_scope.specs.declared.place.Place.TheVariants as place
use Rattle.jsx_scope.specs.Walk.{walk}
use Rattle.jsx_base.proofs.Spans.{MappedTo}
use Rattle.jsx_scope.proofs.walk.Walker.items.Given as goal

abbrev pub invariant-loop-item : goal.invariant-loop-item
invariant-loop-item l = MappedTo (walk (place.Level 0) false) l.item-index (map view_item l.initial.item-items) (map view_item l.item-items)
