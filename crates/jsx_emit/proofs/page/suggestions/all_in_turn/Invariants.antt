use Rattle.std.proofs.Common.{◌≡◌, take, true}
use Rattle.std.specs.List.{list_all}
use Rattle.jsx_emit.specs.Written.{in_turn}
use Rattle.jsx_diag.specs.Splice.{spliced_data}
use Rattle.jsx_emit.proofs.page.suggestions.all_in_turn.Given as goal

abbrev pub invariant-loop-way : goal.invariant-loop-way
invariant-loop-way l = list_all (λ way. in_turn (spliced_data way).parts) (take l.way-index l.ways) ≡ true
