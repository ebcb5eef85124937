use Rattle.jsx_draw.specs.Drawn.{layer_of}
use Rattle.jsx_draw.specs.Views.{columns_of, layer_data, placed_of}
use Rattle.jsx_draw.proofs.Drawing.{drawn_next, drawn_whole}
use Rattle.jsx_draw.proofs.draw.draw_all.Goals as goal

pub loop-it-preserved : goal.loop-it-preserved
loop-it-preserved c = record { so = drawn_next (layer_of (layer_data c.args.layer) (columns_of c.args.at)) placed_of c.args.placed.now c.loop-it.it-index c.it-item.result c.args.buffer.now c.loop-it.buffer c.draw.new.buffer c.loop-it-test.true c.it-item.is c.loop-it.invariant.so c.in_ok-draw.ensures }

pub returns : goal.returns
returns c = drawn_whole (layer_of (layer_data c.args.layer) (columns_of c.args.at)) placed_of c.args.placed.now c.loop-it.it-index c.args.buffer.now c.loop-it.buffer c.loop-it-test.false c.loop-it.invariant.so
