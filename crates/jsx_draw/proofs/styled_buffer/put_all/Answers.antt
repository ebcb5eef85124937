use Rattle.std.proofs.Common.{arith}
use Rattle.std.proofs.lemmas.List.{get_or_default}
use Rattle.jsx_draw.proofs.Grids.{putting_none, putting_more, putting_all}
use Rattle.jsx_draw.proofs.styled_buffer.put_all.Goals as goal

pub loop-cell-init : goal.loop-cell-init
loop-cell-init c = record { putting = putting_none _ _ _; room = omega arith }

pub put-requires : goal.put-requires
put-requires c =
    let place = c.loop-cell.invariant.putting.place in
    let room = c.loop-cell.invariant.room in
    let test = c.loop-cell-test.true in
    let enough = c.requires in
    omega (arith, place, room, test, enough)

pub loop-cell-preserved : goal.loop-cell-preserved
loop-cell-preserved c =
    let room = c.loop-cell.invariant.room in
    let same = c.put.ensures.capacity in record {
      putting = putting_more c.args.cells.now c.args.col c.args.row.now.items c.loop-cell.cell-index c.loop-cell.at c.loop-cell.row.items c.put.new.row.items _ c.loop-cell-test.true (get_or_default _ _ _ _ c.loop-cell-test.true) c.put.ensures.put c.loop-cell.invariant.putting;
      room = omega (arith, same, room);
    }

pub returns : goal.returns
returns c = putting_all c.args.cells.now c.args.col c.args.row.now.items c.loop-cell.cell-index c.loop-cell.at c.loop-cell.row.items c.loop-cell-test.false c.loop-cell.invariant.putting
