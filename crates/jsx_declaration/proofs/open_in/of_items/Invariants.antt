use Rattle.std.proofs.Common.{◌≡◌, map}
use Rattle.jsx_tree.specs.View.{inside, forest, view_expr}
use Rattle.jsx_declaration.specs.OpenIn.{opens, some_of}
use Rattle.jsx_declaration.proofs.OpenIn.{opens_from}
use Rattle.jsx_declaration.proofs.open_in.of_items.Given as goal

abbrev pub invariant-loop-i : goal.invariant-loop-i
invariant-loop-i l = some_of opens (forest (map (inside view_expr) l.items)) ≡ opens_from opens l.i (map (inside view_expr) l.items)
