use Rattle.std.proofs.Common.{◌≡◌, ◌++◌, map, take}
use Rattle.jsx_diag.specs.Data.{piece_of, part_of}
use Rattle.jsx_diag.specs.Adds.{part_piece}
use Rattle.jsx_diag.proofs.diagnostic.notes.push_parts.Given as goal

abbrev pub invariant-loop-part : goal.invariant-loop-part
invariant-loop-part l = map piece_of l.pieces.items ≡ map piece_of l.fn.pieces.items ++ map part_piece (map part_of (take l.part-index l.parts))
