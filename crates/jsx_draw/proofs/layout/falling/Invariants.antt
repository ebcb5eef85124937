use Rattle.std.proofs.Common.{◌≡◌, map, take}
use Rattle.jsx_draw.specs.Annotation.{mark_of}
use Rattle.jsx_draw.specs.Views.{seen_mark}
use Rattle.jsx_draw.proofs.layout.falling.Given as goal

abbrev pub invariant-loop-mark : goal.invariant-loop-mark
invariant-loop-mark l = record { so : map seen_mark l.seen.items ≡ take l.mark-index (map mark_of l.marks) }
