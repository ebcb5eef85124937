use Rattle.std.proofs.Common.{◌≡◌, map, take}
use Rattle.jsx_diag.specs.Data.{Child, child_of}
use Rattle.jsx_emit.specs.Layout.{end_line}
use Rattle.jsx_draw.specs.Spots.{greatest}
use Rattle.jsx_emit.proofs.page.width.notes_line.Given as goal

abbrev pub invariant-loop-note : goal.invariant-loop-note
invariant-loop-note g l = l.line ≡ greatest (map (λ (child : Child). end_line (g.M.SourceMapper.files l.cm) child.span) (take l.note-index (map child_of l.notes)))
