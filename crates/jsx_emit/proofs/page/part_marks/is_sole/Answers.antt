use Rattle.std.proofs.Common.{arith}
use Rattle.jsx_emit.proofs.Marks.{sole_is}
use Rattle.jsx_emit.proofs.page.part_marks.is_sole.Goals as goal

pub returns-in-len1 : goal.returns-in-len1
returns-in-len1 c = sole_is c.args.parts.now c.part-item.result c.args.source.now c.trim.result.now c.trim-in-len1.result.now c.eq.result (omega (arith, c.in-len1.len_at_least, c.in-len1.len_below)) c.part-item.is c.utf8.source (rw c.as_str.ensures.value at c.trim.ensures.trim) c.trim-in-len1.ensures.trim c.eq.ensures
