use Rattle.jsx_names.proofs.Shadowing.{Finding}
use Rattle.jsx_names.proofs.binding.bindings.Given as goal

abbrev pub invariant-loop-i : goal.invariant-loop-i
invariant-loop-i l = Finding l.events l.i l.bound l.scopes.items l.found.items
