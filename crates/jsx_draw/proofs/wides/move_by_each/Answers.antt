use Rattle.std.proofs.Common.{map}
use Rattle.jsx_draw.specs.Views.{spot_of, wide_of}
use Rattle.jsx_draw.proofs.Sides.{each_all, each_next}
use Rattle.jsx_draw.proofs.wides.move_by_each.Goals as goal

pub loop-one-preserved : goal.loop-one-preserved
loop-one-preserved c = record { so = each_next spot_of c.args.spots.now c.loop-one.one-index c.one-item.result (map wide_of c.args.wides.now) (map wide_of c.loop-one.wides) (map wide_of c.move_by.new.wides) c.loop-one-test.true c.one-item.is c.loop-one.invariant.so c.in_ok-move_by.ensures }

pub returns : goal.returns
returns c = each_all spot_of c.args.spots.now c.loop-one.one-index (map wide_of c.args.wides.now) (map wide_of c.loop-one.wides) c.loop-one-test.false c.loop-one.invariant.so
