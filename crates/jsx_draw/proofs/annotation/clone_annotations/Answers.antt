use Rattle.jsx_base.proofs.Spans.{viewed_more, viewed_all}
use Rattle.jsx_draw.specs.Annotation.{mark_of}
use Rattle.jsx_draw.proofs.annotation.clone_annotations.Goals as goal

pub loop-annotation-preserved : goal.loop-annotation-preserved
loop-annotation-preserved c = viewed_more mark_of mark_of c.args.annotations.now c.loop-annotation.copies.items _ _ c.annotation-item.result _ c.loop-annotation-test.true c.loop-annotation.invariant c.annotation-item.is c.in_ok-try_clone.ensures c.in_ok-push.ensures.items

pub returns : goal.returns
returns c = viewed_all mark_of mark_of c.args.annotations.now c.loop-annotation.copies.items _ c.loop-annotation-test.false c.loop-annotation.invariant
