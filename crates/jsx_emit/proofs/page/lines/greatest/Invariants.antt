use Rattle.std.proofs.Common.{◌≡◌, take}
use Rattle.jsx_draw.specs.Spots.{greatest}
use Rattle.jsx_emit.proofs.page.lines.greatest.Given as goal

abbrev pub invariant-loop-depth : goal.invariant-loop-depth
invariant-loop-depth l = record { so : l.greatest ≡ greatest (take l.depth-index l.bars) }
