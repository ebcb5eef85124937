use Rattle.std.proofs.Common.{arith}
use Rattle.jsx_draw.specs.Grid.{blank}
use Rattle.jsx_draw.proofs.Grids.{grown_none, grown_more, grown_all}
use Rattle.jsx_draw.proofs.styled_buffer.pad.Goals as goal

pub loop-row-init : goal.loop-row-init
loop-row-init c = record { grown = grown_none _ _ _; room = omega arith }

pub push_reserved-requires : goal.push_reserved-requires
push_reserved-requires c =
    let test = c.loop-row-test.true in
    let len = c.len.ensures in
    let room = c.loop-row.invariant.room in
    let enough = c.requires in
    omega (arith, test, len, room, enough)

pub loop-row-smaller : goal.loop-row-smaller
loop-row-smaller c =
    let test = c.loop-row-test.true in
    let len = c.len.ensures in
    let more = c.push_reserved.ensures.len in
    omega (arith, test, len, more)

pub loop-row-preserved : goal.loop-row-preserved
loop-row-preserved c =
    let test = c.loop-row-test.true in
    let len = c.len.ensures in
    let same = c.push_reserved.ensures.capacity in
    let room = c.loop-row.invariant.room in
    let held = c.loop-row.row.ok.0 in record {
      grown = grown_more blank c.args.n c.args.row.now.items c.loop-row.row.items c.push_reserved.new.self.items (omega (arith, test, len, held)) c.push_reserved.ensures.items c.loop-row.invariant.grown;
      room = omega (arith, same, room);
    }

pub returns-clause-row : goal.returns-clause-row
returns-clause-row c =
    let test = c.loop-row-test.false in
    let len = c.len.ensures in
    let held = c.loop-row.row.ok.0 in
    grown_all blank c.args.n c.args.row.now.items c.loop-row.row.items (omega (arith, test, len, held)) c.loop-row.invariant.grown

pub returns-clause-capacity : goal.returns-clause-capacity
returns-clause-capacity c = c.loop-row.invariant.room
