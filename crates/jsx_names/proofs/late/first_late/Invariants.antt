use Rattle.jsx_names.proofs.Scanning.{NoneLate}
use Rattle.jsx_names.proofs.late.first_late.Given as goal

abbrev pub invariant-loop-i : goal.invariant-loop-i
invariant-loop-i l = NoneLate l.events l.i l.scan
