use Rattle.std.proofs.Common.{◌≡◌, ◌++◌, map, take}
use Rattle.jsx_tree.specs.View.{forest}
use Rattle.jsx_tree.specs.ViewProgram.{view_item}
use Rattle.jsx_tree.specs.Told.{tales, told_item}
use Rattle.jsx_names.specs.Events.{Plain}
use Rattle.jsx_heard.specs.Said.{Unnamed, Elsewhere, said_each, met_all}
use Rattle.jsx_heard.proofs.walk.Walker.items.Given as goal

abbrev pub invariant-loop-item : goal.invariant-loop-item
invariant-loop-item l = record { so : met_all l.events.items ≡ met_all l.fn.events.items ++ said_each Plain Unnamed Elsewhere (forest (map view_item (take l.item-index l.items))) (tales (map told_item (take l.item-index l.items))) }
