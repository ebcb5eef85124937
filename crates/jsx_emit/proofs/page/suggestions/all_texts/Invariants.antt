use Rattle.std.proofs.Common.{map, take}
use Rattle.std.specs.Prelude.{string_bytes}
use Rattle.jsx_diag.specs.Data.{suggestion_of}
use Rattle.jsx_emit.specs.Shows.{Each, SuggestionPart}
use Rattle.jsx_emit.proofs.page.suggestions.all_texts.Given as goal

abbrev pub invariant-loop-it : goal.invariant-loop-it
invariant-loop-it g l = record {
  each : Each (SuggestionPart l.look.ui_testing (g.M.SourceMapper.files l.cm) l.width) (take l.it-index (map suggestion_of l.suggestions)) (string_bytes l.text);
}
