use Rattle.std.proofs.Common.{◌∙◌, ap, arith, map}
use Rattle.jsx_draw.specs.Drawn.{moved_by_each}
use Rattle.jsx_draw.specs.Views.{spot_of, wide_of}
use Rattle.jsx_draw.proofs.Sides.{firsts_seen, whole_vec}
use Rattle.jsx_draw.proofs.wides.wides_of.Goals as goal

pub returns : goal.returns
returns c =
    let spots = map spot_of c.args.spots.now in
    let long = c.deref_mut.ensures.len in
    whole_vec wide_of spots c.in_ok-wides.wides.items c.deref_mut.result.now c.move_by_each.new.wides c.in_ok-wides.wides.len c.deref_mut.ensures.value (omega (arith, long)) c.in_ok-move_by_each.ensures
    ∙ ap (moved_by_each spots) (c.in_ok-wides.ensures ∙ firsts_seen spot_of c.args.spots.now)
