use Rattle.std.proofs.Common.{◌≡◌, map, take}
use Rattle.jsx_draw.specs.Spots.{greatest}
use Rattle.jsx_draw.proofs.wides.depth_of.Given as goal

abbrev pub invariant-loop-it : goal.invariant-loop-it
invariant-loop-it l = record { so : l.depth ≡ greatest (take l.it-index (map (λ it. it.depth) l.wides)) }
