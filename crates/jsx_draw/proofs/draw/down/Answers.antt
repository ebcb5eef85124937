use Rattle.std.proofs.Common.{arith}
use Rattle.jsx_draw.proofs.Drawing.{down_end, down_next}
use Rattle.jsx_draw.proofs.draw.down.Goals as goal

pub loop-row-preserved : goal.loop-row-preserved
loop-row-preserved c =
    let low = c.loop-row.auto.row in
    let less = c.loop-row-test.true in record {
      high = omega (arith, low, less);
      so = down_next c.args.col c.args.rows.0 c.loop-row.row c.args.cell c.args.buffer.now c.loop-row.buffer c.putc.new.self low c.loop-row.invariant.so c.in_ok-putc.ensures.put;
    }

pub returns : goal.returns
returns c = down_end c.args.col c.args.rows.0 c.args.rows.1 c.loop-row.row c.args.cell c.args.buffer.now c.loop-row.buffer c.loop-row.auto.row c.loop-row-test.false c.loop-row.invariant.high c.loop-row.invariant.so
