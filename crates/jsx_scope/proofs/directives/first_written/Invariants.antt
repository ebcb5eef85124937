use Rattle.std.proofs.Common.{◌≡◌, map}
use Rattle.jsx_tree.specs.Parentheses.{first_no_directive}
use Rattle.jsx_tree.specs.View.{inside, forest, view_stmt}
use Rattle.jsx_scope.specs.Walk.{kept}
use Rattle.jsx_scope.proofs.directives.first_written.Given as goal

abbrev pub invariant-loop-i : goal.invariant-loop-i
invariant-loop-i l = first_no_directive (forest (map (inside view_stmt) l.stmts)) ≡ kept l.i (map (inside view_stmt) l.stmts)
