use Rattle.jsx_base.proofs.Spans.{Viewed}
use Rattle.jsx_diag.specs.Data.{edit_of}
use Rattle.jsx_diag.proofs.suggestion.Substitution.try_clone.Given as goal

abbrev pub invariant-loop-part : goal.invariant-loop-part
invariant-loop-part l = Viewed edit_of edit_of l.part-index l.part-items l.parts.items
