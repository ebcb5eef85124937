use Rattle.jsx_base.proofs.Spans.{Viewed}
use Rattle.jsx_diag.specs.Data.{edits_of}
use Rattle.jsx_diag.proofs.suggestion.CodeSuggestion.try_clone.Given as goal

abbrev pub invariant-loop-substitution : goal.invariant-loop-substitution
invariant-loop-substitution l = Viewed edits_of edits_of l.substitution-index l.substitution-items l.substitutions.items
