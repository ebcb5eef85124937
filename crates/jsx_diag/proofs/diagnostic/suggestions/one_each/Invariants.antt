use Rattle.jsx_base.proofs.Spans.{Viewed}
use Rattle.jsx_diag.specs.Data.{edits_of}
use Rattle.jsx_diag.specs.Adds.{edits_at}
use Rattle.jsx_diag.proofs.diagnostic.suggestions.one_each.Given as goal

abbrev pub invariant-loop-text : goal.invariant-loop-text
invariant-loop-text l = Viewed (edits_at l.span) edits_of l.text-index l.texts l.ways.items
