use Rattle.std.proofs.Common.{◌≡◌, length, map}
use Rattle.jsx_diag.specs.Data.{edit_of}
use Rattle.jsx_emit.specs.Marks.{marks_of}
use Rattle.jsx_emit.proofs.page.part_marks.draw_parts.Given as goal

abbrev pub invariant-loop-part : goal.invariant-loop-part
invariant-loop-part g l = record { so : marks_of (g.M.SourceMapper.files l.cm) l.row l.code l.moved.by l.moved.back (map edit_of l.left) l.buffer ≡ marks_of (g.M.SourceMapper.files l.fn.cm) l.fn.row l.fn.code 0 0 (map edit_of l.fn.parts) l.fn.buffer }

abbrev pub decreases-loop-part : goal.decreases-loop-part
decreases-loop-part g l = length l.left
