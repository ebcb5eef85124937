use Rattle.std.proofs.Common.{drop}
use Rattle.jsx_kit.specs.Fed.{fed_slice, EachIsSaid}
use Rattle.jsx_kit.proofs.Hashing.{Remaining}
use Rattle.jsx_kit.proofs.hash_parts.RefSliceHashStable.hash_stable.Given as goal

abbrev pub invariant-loop-item : goal.invariant-loop-item
invariant-loop-item g l =
    EachIsSaid g.T.HashStable.fed g.T.HashStable.is_said l.item-items l.fn.hcx
    → Remaining g.T.HashStable.fed g.T.HashStable.is_said (fed_slice g.T.HashStable.fed l.item-items l.fn.hcx) l.fn.hasher
    (drop l.item-index l.item-items) l.hcx l.hasher
