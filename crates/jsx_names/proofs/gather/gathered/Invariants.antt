use Rattle.jsx_names.proofs.Keeping.{Gathering}
use Rattle.jsx_names.proofs.gather.gathered.Given as goal

abbrev pub invariant-loop-i : goal.invariant-loop-i
invariant-loop-i l = Gathering l.events l.i l.lists l.scopes.items
