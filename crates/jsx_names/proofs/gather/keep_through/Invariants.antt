use Rattle.std.proofs.Common.{◌≤◌, length}
use Rattle.jsx_names.specs.Shadowed.{named_of}
use Rattle.jsx_names.proofs.Keeping.{Through}
use Rattle.jsx_names.proofs.gather.keep_through.Given as goal

abbrev pub invariant-loop-at : goal.invariant-loop-at
invariant-loop-at l = record {
  most : l.at ≤ length l.scopes;
  through : Through l.fn.lists l.lists (named_of l.kept) l.scopes l.at;
}

abbrev pub decreases-loop-at : goal.decreases-loop-at
decreases-loop-at l = l.at
