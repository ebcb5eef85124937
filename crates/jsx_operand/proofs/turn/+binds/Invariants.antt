use Rattle.std.proofs.Common.{map, take}
use Rattle.jsx_tree.specs.View.{forest, inside, view_pat, view_target}
use Rattle.jsx_operand.specs.Turning.{SuitsAll}
use Rattle.jsx_operand.proofs.turn.+binds.Given as goal

abbrev pub invariant-all_bind-loop-i : goal.invariant-all_bind-loop-i
invariant-all_bind-loop-i l = SuitsAll (forest (map (inside view_target) (take l.i l.patterns))) (forest (map (inside view_pat) (take l.i l.patterns)))
