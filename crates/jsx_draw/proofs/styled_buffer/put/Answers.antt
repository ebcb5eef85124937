use Rattle.std.proofs.Common.{arith}
use Rattle.jsx_draw.proofs.Grids.{put_over}
use Rattle.jsx_draw.proofs.styled_buffer.put.Goals as goal

pub returns-then-col-len-clause-put : goal.returns-then-col-len-clause-put
returns-then-col-len-clause-put c =
    let test = c.if-col-len.true in
    let len = c.len.ensures in
    let held = c.pad.new.row.ok.0 in
    put_over c.args.col c.args.cell c.args.row.now.items c.pad.new.row.items c.pad.ensures.row (omega (arith, test, len, held))
