use Rattle.std.proofs.Common.{◌≡◌, map}
use Rattle.jsx_tree.specs.Parentheses.{first_no_directive}
use Rattle.jsx_tree.specs.View.{forest}
use Rattle.jsx_tree.specs.ViewProgram.{view_item}
use Rattle.jsx_scope.specs.Walk.{kept}
use Rattle.jsx_scope.proofs.directives.first_item.Given as goal

abbrev pub invariant-loop-i : goal.invariant-loop-i
invariant-loop-i l = first_no_directive (forest (map (view_item) l.items)) ≡ kept l.i (map (view_item) l.items)
