use Rattle.jsx_names.proofs.Going.{NoneAgain}
use Rattle.jsx_names.proofs.again.first_again.Given as goal

abbrev pub invariant-loop-i : goal.invariant-loop-i
invariant-loop-i l = NoneAgain l.events l.i l.exported
