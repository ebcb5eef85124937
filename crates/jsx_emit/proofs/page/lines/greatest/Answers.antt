use Rattle.std.proofs.Common.{get_or, ◌∙◌}
use Rattle.std.proofs.lemmas.List.{get_or_default}
use Rattle.jsx_draw.proofs.Loops.{greatest_next}
use Rattle.jsx_emit.proofs.page.lines.greatest.Goals as goal

pub loop-depth-preserved : goal.loop-depth-preserved
loop-depth-preserved c =
    let bars = c.args.bars.now in
    let i = c.loop-depth.depth-index in
    record { so = c.max-greatest.ensures ∙ greatest_next bars i c.loop-depth.greatest (get_or bars i 0) c.loop-depth-test.true (get_or_default bars i 0 (get_or bars i 0) c.loop-depth-test.true) c.loop-depth.invariant.so }
