use Rattle.std.proofs.Common.{map}
use Rattle.jsx_diag.specs.Data.{edit_of}
use Rattle.jsx_emit.proofs.Ways.{turning_all, turning_more, turning_not, turns_all}
use Rattle.jsx_emit.proofs.page.suggestions.in_turn.Goals as goal

pub loop-part-init : goal.loop-part-init
loop-part-init c = record { left = turns_all (map edit_of c.args.parts.now) }

pub loop-part-preserved : goal.loop-part-preserved
loop-part-preserved c = turning_more c.args.parts.now c.loop-part.part-index c.loop-part.end c.low.result c.high-end.result c.part-item.result c.loop-part-test.true c.part-item.is c.low.ensures c.high-end.ensures c.if-low-end.false c.loop-part.invariant

pub returns-then-low-end : goal.returns-then-low-end
returns-then-low-end c = turning_not c.args.parts.now c.loop-part.part-index c.loop-part.end c.low.result c.part-item.result c.loop-part-test.true c.part-item.is c.low.ensures c.if-low-end.true c.loop-part.invariant

pub returns : goal.returns
returns c = turning_all c.args.parts.now c.loop-part.part-index c.loop-part.end c.loop-part-test.false c.loop-part.invariant
