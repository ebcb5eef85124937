use Rattle.std.proofs.Common.{map}
use Rattle.jsx_draw.specs.Spots.{is_single}
use Rattle.jsx_draw.specs.Views.{spot_of}
use Rattle.jsx_draw.proofs.Loops.{filter_all, filter_next}
use Rattle.jsx_draw.proofs.spots.singles.Goals as goal

pub loop-spot-preserved : goal.loop-spot-preserved
loop-spot-preserved c = record { so = filter_next is_single spot_of c.args.spots.now c.loop-spot.spot-index c.spot-item.result c.is_single.result (map spot_of c.loop-spot.singles.items) (map spot_of c.push_if.new.spots.items) c.loop-spot-test.true c.spot-item.is c.is_single.ensures c.in_ok-push_if.ensures c.loop-spot.invariant.so }

pub returns : goal.returns
returns c = filter_all is_single spot_of c.args.spots.now c.loop-spot.spot-index (map spot_of c.loop-spot.singles.items) c.loop-spot-test.false c.loop-spot.invariant.so
