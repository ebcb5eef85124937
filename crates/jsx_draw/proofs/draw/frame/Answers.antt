use Rattle.std.proofs.Common.{◌≡◌, ap, ◌∙◌, arith}
use Rattle.jsx_draw.specs.Drawn.{frame}
use Rattle.jsx_draw.proofs.Drawing.{frame_next}
use Rattle.jsx_draw.proofs.draw.frame.Goals as goal

pub loop-row-preserved : goal.loop-row-preserved
loop-row-preserved c = record { so = frame_next c.args.col c.loop-row.row c.loop-row.buffer c.puts.new.self c.loop-row.invariant.so c.in_ok-puts.ensures.put }

pub returns : goal.returns
returns c =
    let all = c.loop-row-test.false in
    let high = c.loop-row.auto.row-end in
    let end : c.loop-row.row ≡ c.args.rows = omega (arith, all, high) in
    c.loop-row.invariant.so ∙ ap (frame c.args.col) end
