use Rattle.std.proofs.Common.{ap, filter, map, not, refl}
use Rattle.jsx_draw.specs.Spots.{Spot, is_before, is_single}
use Rattle.jsx_draw.specs.Views.{spot_of}
use Rattle.jsx_draw.proofs.Loops.{filter_all, filter_next, lines_sorted}
use Rattle.jsx_draw.proofs.Drawing.{sorted_if}
use Rattle.jsx_draw.proofs.spots.by_lines.Goals as goal

pub loop-spot-preserved : goal.loop-spot-preserved
loop-spot-preserved c = record { so = filter_next (λ (spot : Spot). not (is_single spot)) spot_of c.args.spots.now c.loop-spot.spot-index c.spot-item.result (not c.is_single.result) (map spot_of c.loop-spot.wide.items) (map spot_of c.push_if.new.spots.items) c.loop-spot-test.true c.spot-item.is (ap not c.is_single.ensures) c.in_ok-push_if.ensures c.loop-spot.invariant.so }

pub returns : goal.returns
returns c =
    let kept = filter (λ (spot : Spot). not (is_single spot)) (map spot_of c.args.spots.now) in
    rw (lines_sorted kept) at
    (sorted_if (λ a b. is_before (spot_of a) (spot_of b)) is_before spot_of (λ a b. refl) c.sorted.result c.loop-spot.wide.items kept (rw c.deref.ensures.value at c.sorted.ensures)
    (filter_all (λ (spot : Spot). not (is_single spot)) spot_of c.args.spots.now c.loop-spot.spot-index (map spot_of c.loop-spot.wide.items) c.loop-spot-test.false c.loop-spot.invariant.so))
