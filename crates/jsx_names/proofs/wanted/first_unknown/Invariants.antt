use Rattle.std.proofs.Common.{◌≡◌, List, drop}
use Rattle.jsx_tree.specs.Scopes.{Declaration}
use Rattle.jsx_names.specs.Code.{plain_all}
use Rattle.jsx_names.specs.Collected.{Knows}
use Rattle.jsx_names.specs.Faults.{unknown, first}
use Rattle.jsx_names.proofs.wanted.first_unknown.Given as goal

abbrev pub invariant-loop-i : goal.invariant-loop-i
invariant-loop-i l = (ds : List Declaration) → Knows l.names ds → first (unknown 0 ds (plain_all l.events)) ≡ first (unknown l.i ds (plain_all (drop l.i l.events)))
