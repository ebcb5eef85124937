use Rattle.std.proofs.Common.{false, map, ap, sym, ◌∙◌}
use Rattle.jsx_tree.specs.Parentheses.{first_no_directive}
use Rattle.jsx_tree.specs.View.{forest}
use Rattle.jsx_tree.specs.ViewProgram.{view_item}
use Rattle.jsx_scope.specs.declared.place.Place.TheVariants as place
use Rattle.jsx_scope.specs.Walk.{walk_each}
use Rattle.jsx_scope.proofs.Outcomes.{then_ok}
use Rattle.jsx_scope.proofs.Walks.{walk_forest}
use Rattle.jsx_scope.proofs.walk.Walker.module_body.Goals as goal

pub returns : goal.returns
returns c = then_ok c.keep_items_from_directives.result (forest (map view_item c.keep_items_from_directives.new.items.items)) (first_no_directive (forest (map view_item c.items.new.items.items))) (first_no_directive (walk_each (place.Level 0) false (forest (map view_item c.args.items.now.items))))
    (λ e. e ∙ ap first_no_directive (ap forest c.in_ok-items.ensures ∙ sym (walk_forest (place.Level 0) false (map view_item c.args.items.now.items)))) c.keep_items_from_directives.ensures
