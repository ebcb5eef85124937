use Rattle.std.proofs.Common.{◌≤◌, map}
use Rattle.jsx_tree.specs.Grammar.{Lines, TopLines}
use Rattle.jsx_tree.specs.View.{directive, forest}
use Rattle.jsx_token.specs.Here.{left, place_of}
use Rattle.jsx_statement.proofs.Directives.{Ahead, Led}
use Rattle.jsx_statement.proofs.PlacedRuns.{PlacedRun}
use Rattle.jsx_statement.proofs.body.directives.Given as goal

abbrev pub invariant-directives : goal.invariant-directives
invariant-directives l = record {
  led : Led (place_of l.fn.lexer) (place_of l.lexer);
  ahead : Ahead (place_of l.fn.lexer) (forest (map directive l.all.items)) (place_of l.lexer);
  lines : PlacedRun Lines l.all.items l.fn.lexer l.lexer;
  top_lines : PlacedRun TopLines l.all.items l.fn.lexer l.lexer;
  within : left l.lexer ≤ left l.fn.lexer;
}

abbrev pub decreases-directives : goal.decreases-directives
decreases-directives l = left l.lexer
