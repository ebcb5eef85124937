use Rattle.std.proofs.Common.{◌≡◌, drop}
use Rattle.jsx_names.specs.Code.{plain_all}
use Rattle.jsx_names.specs.Faults.{calls, first}
use Rattle.jsx_names.proofs.direct.first_call.Given as goal

abbrev pub invariant-loop-i : goal.invariant-loop-i
invariant-loop-i l = first (calls 0 (plain_all l.events)) ≡ first (calls l.i (plain_all (drop l.i l.events)))
