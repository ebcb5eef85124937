use Rattle.std.proofs.Common.{refl}
use Rattle.jsx_draw.specs.Drawn.{first_column}
use Rattle.jsx_draw.specs.Views.{spot_of, wide_of}
use Rattle.jsx_draw.proofs.Drawing.{seen_all, seen_more}
use Rattle.jsx_draw.proofs.wides.first_columns.Goals as goal

pub loop-spot-preserved : goal.loop-spot-preserved
loop-spot-preserved c = record { so = seen_more wide_of (λ it. first_column (spot_of it)) c.args.spots.now c.loop-spot.spot-index c.spot-item.result c.loop-spot.wides.items c.push.new.self.items _ c.loop-spot-test.true c.spot-item.is refl c.in_ok-push.ensures.items c.loop-spot.invariant.so }

pub returns : goal.returns
returns c = seen_all wide_of (λ it. first_column (spot_of it)) c.args.spots.now c.loop-spot.spot-index c.loop-spot.wides.items c.loop-spot-test.false c.loop-spot.invariant.so
