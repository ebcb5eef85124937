use Rattle.std.proofs.Common.{map, refl}
use Rattle.jsx_draw.specs.Annotation.{mark_of}
use Rattle.jsx_draw.specs.Drawn.{begins_later}
use Rattle.jsx_draw.specs.Views.{seen_mark}
use Rattle.jsx_draw.proofs.Drawing.{seen_all, seen_more, sorted_if}
use Rattle.jsx_draw.proofs.layout.falling.Goals as goal

pub loop-mark-preserved : goal.loop-mark-preserved
loop-mark-preserved c = record { so = seen_more seen_mark mark_of c.args.marks.now c.loop-mark.mark-index c.mark-item.result c.loop-mark.seen.items c.push.new.self.items _ c.loop-mark-test.true c.mark-item.is refl c.in_ok-push.ensures.items c.loop-mark.invariant.so }

pub returns : goal.returns
returns c = sorted_if (λ a b. begins_later (seen_mark a) (seen_mark b)) begins_later seen_mark (λ a b. refl) c.sorted.result c.loop-mark.seen.items (map mark_of c.args.marks.now) (rw c.deref.ensures.value at c.sorted.ensures) (seen_all seen_mark mark_of c.args.marks.now c.loop-mark.mark-index c.loop-mark.seen.items c.loop-mark-test.false c.loop-mark.invariant.so)
