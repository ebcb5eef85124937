use Rattle.std.proofs.Common.{◌≡◌, ◌<◌, ◌∙◌, ap, arith, length, refl, sym, set, slice_index_or}
use Rattle.std.proofs.lemmas.List.{get_or_default, length-set}
use Rattle.jsx_draw.specs.declared.wides.Wide.{Wide}
use Rattle.jsx_draw.specs.Views.{spot_of, wide_of}
use Rattle.jsx_draw.proofs.Sides.{moving_ends, moving_more}
use Rattle.jsx_draw.proofs.wides.move_by.Goals as goal

pub returns-then-not-moves_with : goal.returns-then-not-moves_with
returns-then-not-moves_with c =
    let bound = c.loop-i-test.true in
    let long = c.loop-i.invariant.long in
    moving_ends wide_of (spot_of c.args.one) c.loop-i.wides c.loop-i.i c.index-wides-i.result _ (omega (arith, bound, long)) c.index-wides-i.is (sym c.moves_with.ensures ∙ c.if-not-moves_with.true) c.loop-i.invariant.so

pub loop-i-preserved : goal.loop-i-preserved
loop-i-preserved c =
    let ws = c.loop-i.wides in
    let i = c.loop-i.i in
    let it = c.index-wides-i.result in
    let old = c.index-wides-i-in-loop-i.result in
    let bound = c.loop-i-test.true in
    let long = c.loop-i.invariant.long in
    let within : i < length ws = omega (arith, bound, long) in
    let same : slice_index_or ws i old ≡ it = get_or_default ws i old it within ∙ sym c.index-wides-i.is in
    let put : Wide = record { spot = (slice_index_or ws i old).spot; depth = c.in_ok-wides.field-0 } in
    record {
      long = length-set ws i put ∙ long;
      so = moving_more wide_of (spot_of c.args.one) ws (set ws i put) i it put _ within c.index-wides-i.is refl (sym c.moves_with.ensures ∙ c.if-not-moves_with.false)
          (ap (λ (z : Wide). record { spot = spot_of z.spot; depth = c.in_ok-wides.field-0 }) same ∙ ap (λ n. record { spot = spot_of it.spot; depth = n }) c.in_ok-wides.ensures)
          c.loop-i.invariant.so;
    }
