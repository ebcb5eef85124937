use Rattle.jsx_base.proofs.Spans.{Viewed}
use Rattle.jsx_diag.specs.Data.{suggestion_of}
use Rattle.jsx_diag.proofs.suggestion.clone_suggestions.Given as goal

abbrev pub invariant-loop-suggestion : goal.invariant-loop-suggestion
invariant-loop-suggestion l = Viewed suggestion_of suggestion_of l.suggestion-index l.suggestions l.copies.items
