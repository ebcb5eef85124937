use Rattle.jsx_names.proofs.Shadowing.{Showing}
use Rattle.jsx_names.proofs.binding.show_all.Given as goal

abbrev pub invariant-loop-kept : goal.invariant-loop-kept
invariant-loop-kept l = Showing l.is_behind l.scope.1 l.scope.0 l.list l.kept-index l.fn.bound l.bound l.fn.saved.items l.saved.items
