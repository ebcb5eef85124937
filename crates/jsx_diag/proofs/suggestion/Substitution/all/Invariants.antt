use Rattle.jsx_base.proofs.Spans.{Viewed}
use Rattle.jsx_diag.specs.Data.{edit_of}
use Rattle.jsx_diag.specs.Adds.{edit_from}
use Rattle.jsx_diag.proofs.suggestion.Substitution.all.Given as goal

abbrev pub invariant-loop-text : goal.invariant-loop-text
invariant-loop-text l = Viewed edit_from edit_of l.text-index l.texts l.parts.items
