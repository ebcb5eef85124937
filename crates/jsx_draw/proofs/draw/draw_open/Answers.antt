use Rattle.std.proofs.Common.{◌-◌, ap, get_or, ◌∙◌}
use Rattle.std.proofs.lemmas.List.{get_or_default}
use Rattle.jsx_diag.specs.declared.level.Style.TheVariants as style
use Rattle.jsx_draw.specs.Drawn.{down, draw_open}
use Rattle.jsx_draw.proofs.Drawing.{drawn_rest, drawn_step}
use Rattle.jsx_draw.proofs.draw.draw_open.Goals as goal

pub loop-depth-preserved : goal.loop-depth-preserved
loop-depth-preserved c =
    let depths = c.args.depths.now in
    let i = c.loop-depth.depth-index in record {
      so = drawn_step (draw_open c.args.bars c.args.rows) depths i (get_or depths i 0) c.args.buffer.now c.loop-depth.buffer c.down.new.buffer c.loop-depth-test.true (get_or_default depths i 0 (get_or depths i 0) c.loop-depth-test.true) c.loop-depth.invariant.so
          (c.in_ok-down.ensures ∙ ap (λ n. down n 0 (c.args.rows - 0) (124, style.UnderlinePrimary) c.loop-depth.buffer) c.in_ok-sum.ensures);
    }

pub returns : goal.returns
returns c = drawn_rest (draw_open c.args.bars c.args.rows) c.args.depths.now c.loop-depth.depth-index c.args.buffer.now c.loop-depth.buffer c.loop-depth-test.false c.loop-depth.invariant.so
