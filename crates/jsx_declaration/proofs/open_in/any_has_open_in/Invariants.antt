use Rattle.std.proofs.Common.{◌≡◌, map}
use Rattle.jsx_tree.specs.View.{inside, forest, view_pat}
use Rattle.jsx_declaration.specs.OpenIn.{any_opens, opens_declared}
use Rattle.jsx_declaration.proofs.OpenIn.{opens_from}
use Rattle.jsx_declaration.proofs.open_in.any_has_open_in.Given as goal

abbrev pub invariant-loop-i : goal.invariant-loop-i
invariant-loop-i l = any_opens (forest (map (inside view_pat) l.declarators)) ≡ opens_from opens_declared l.i (map (inside view_pat) l.declarators)
