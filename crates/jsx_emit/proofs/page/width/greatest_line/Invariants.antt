use Rattle.std.proofs.Common.{◌≡◌, map, take}
use Rattle.jsx_base.specs.MultiSpan.{label_data}
use Rattle.jsx_emit.proofs.Width.{labels_end}
use Rattle.jsx_emit.proofs.page.width.greatest_line.Given as goal

abbrev pub invariant-loop-label : goal.invariant-loop-label
invariant-loop-label g l = l.line ≡ labels_end (g.M.SourceMapper.files l.cm) (take l.label-index (map label_data l.label-items))
