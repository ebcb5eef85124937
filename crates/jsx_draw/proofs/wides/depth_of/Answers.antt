use Rattle.std.proofs.Common.{◌∙◌}
use Rattle.jsx_draw.specs.declared.wides.Wide.{Wide}
use Rattle.jsx_draw.proofs.Loops.{depth_next}
use Rattle.jsx_draw.proofs.wides.depth_of.Goals as goal

pub loop-it-preserved : goal.loop-it-preserved
loop-it-preserved c = record { so = c.max-depth.ensures ∙ depth_next (λ (it : Wide). it.depth) c.args.wides.now c.loop-it.it-index c.loop-it.depth c.it-item.result c.loop-it-test.true c.it-item.is c.loop-it.invariant.so }
