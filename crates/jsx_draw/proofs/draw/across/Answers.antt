use Rattle.std.proofs.Common.{arith}
use Rattle.jsx_draw.proofs.Drawing.{across_end, across_next}
use Rattle.jsx_draw.proofs.draw.across.Goals as goal

pub loop-col-preserved : goal.loop-col-preserved
loop-col-preserved c =
    let low = c.loop-col.auto.col in
    let less = c.loop-col-test.true in record {
      high = omega (arith, low, less);
      so = across_next c.args.row c.args.cols.0 c.loop-col.col c.args.cell c.args.buffer.now c.loop-col.buffer c.putc.new.self low c.loop-col.invariant.so c.in_ok-putc.ensures.put;
    }

pub returns : goal.returns
returns c = across_end c.args.row c.args.cols.0 c.args.cols.1 c.loop-col.col c.args.cell c.args.buffer.now c.loop-col.buffer c.loop-col.auto.col c.loop-col-test.false c.loop-col.invariant.high c.loop-col.invariant.so
