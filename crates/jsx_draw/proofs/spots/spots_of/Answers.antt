use Rattle.std.proofs.Common.{[], map}
use Rattle.jsx_base.specs.MultiSpan.{Label, label_data}
use Rattle.jsx_draw.specs.Spots.{held_in, spot_in}
use Rattle.jsx_draw.specs.Views.{spot_of}
use Rattle.jsx_draw.proofs.Loops.{flat_all, flat_next}
use Rattle.jsx_draw.proofs.spots.spots_of.Goals as goal

pub loop-label-preserved : goal.loop-label-preserved
loop-label-preserved g c = record { so = flat_next (λ (it : Label). spot_in (held_in (g.M.SourceMapper.files c.args.cm.now) it.span) it) label_data c.args.labels.now c.loop-label.label-index c.label-item.result [] (map spot_of c.loop-label.spots.items) (map spot_of c.push_spot.new.spots.items) c.loop-label-test.true c.label-item.is c.loop-label.invariant.so c.in_ok-push_spot.ensures }

pub returns : goal.returns
returns g c = flat_all (λ (it : Label). spot_in (held_in (g.M.SourceMapper.files c.args.cm.now) it.span) it) label_data c.args.labels.now c.loop-label.label-index [] (map spot_of c.loop-label.spots.items) c.loop-label-test.false c.loop-label.invariant.so
