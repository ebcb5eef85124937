use Rattle.std.proofs.Common.{map}
use Rattle.jsx_diag.specs.Data.{edit_of}
use Rattle.jsx_emit.proofs.Ways.{Turning}
use Rattle.jsx_emit.proofs.page.suggestions.in_turn.Given as goal

abbrev pub invariant-loop-part : goal.invariant-loop-part
invariant-loop-part l = Turning (map edit_of l.parts) l.part-index l.end
