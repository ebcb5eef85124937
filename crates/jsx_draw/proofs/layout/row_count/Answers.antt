use Rattle.std.proofs.Common.{◌∙◌}
use Rattle.jsx_draw.specs.Views.{placed_of}
use Rattle.jsx_draw.proofs.Drawing.{row_more}
use Rattle.jsx_draw.proofs.layout.row_count.Goals as goal

pub loop-it-preserved : goal.loop-it-preserved
loop-it-preserved c = record { so = c.max-greatest.ensures ∙ row_more placed_of c.args.placed.now c.loop-it.it-index c.loop-it.greatest c.it-item.result c.loop-it-test.true c.it-item.is c.loop-it.invariant.so }
