use Rattle.jsx_names.proofs.Going.{Ending}
use Rattle.jsx_names.proofs.scopes.ends.Given as goal

abbrev pub invariant-loop-at : goal.invariant-loop-at
invariant-loop-at l = Ending l.events l.at l.ends.items l.closed.items

abbrev pub decreases-loop-at : goal.decreases-loop-at
decreases-loop-at l = l.at
