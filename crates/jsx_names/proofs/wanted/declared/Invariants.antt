use Rattle.jsx_names.proofs.Collecting.{Collecting}
use Rattle.jsx_names.proofs.wanted.declared.Given as goal

abbrev pub invariant-loop-event : goal.invariant-loop-event
invariant-loop-event l = Collecting l.events l.event-index l.passed.items l.names
