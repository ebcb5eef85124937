use Rattle.std.proofs.Common.{[], arith}
use Rattle.jsx_draw.specs.Grid.{grid_of}
use Rattle.jsx_draw.proofs.Grids.{grown_none, grown_more, grown_all, grid-push, length-grid}
use Rattle.jsx_draw.proofs.styled_buffer.add_empty.Goals as goal

pub loop-alloc-init : goal.loop-alloc-init
loop-alloc-init c = record { grown = grown_none _ _ _; room = omega arith; below = c.requires.below }

pub push_reserved-requires : goal.push_reserved-requires
push_reserved-requires c =
    let test = c.loop-alloc-test.true in
    let len = c.len.ensures in
    let room = c.loop-alloc.invariant.room in
    let enough = c.requires.room in
    omega (arith, test, len, room, enough)

pub loop-alloc-smaller : goal.loop-alloc-smaller
loop-alloc-smaller c =
    let test = c.loop-alloc-test.true in
    let len = c.len.ensures in
    let more = c.push_reserved.ensures.len in
    omega (arith, test, len, more)

pub loop-alloc-preserved : goal.loop-alloc-preserved
loop-alloc-preserved c =
    let test = c.loop-alloc-test.true in
    let len = c.len.ensures in
    let more = c.push_reserved.ensures.len in
    let same = c.push_reserved.ensures.capacity in
    let room = c.loop-alloc.invariant.room in
    let held = c.loop-alloc.rows.ok.0 in record {
      grown = grown_more [] c.args.n (grid_of c.args.rows.now.items) (grid_of c.loop-alloc.rows.items) (grid_of c.push_reserved.new.self.items) (omega (arith, test, len, held, length-grid c.loop-alloc.rows.items)) (grid-push c.loop-alloc.rows.items c.push_reserved.new.self.items c.new.result [] c.push_reserved.ensures.items c.new.ensures.items) c.loop-alloc.invariant.grown;
      room = omega (arith, same, room);
      below = omega (arith, test, len, more);
    }

pub returns-clause-rows : goal.returns-clause-rows
returns-clause-rows c =
    let test = c.loop-alloc-test.false in
    let len = c.len.ensures in
    let held = c.loop-alloc.rows.ok.0 in
    grown_all [] c.args.n (grid_of c.args.rows.now.items) (grid_of c.loop-alloc.rows.items) (omega (arith, test, len, held, length-grid c.loop-alloc.rows.items)) c.loop-alloc.invariant.grown

pub returns-clause-len : goal.returns-clause-len
returns-clause-len c =
    let test = c.loop-alloc-test.false in
    let len = c.len.ensures in
    let below = c.loop-alloc.invariant.below in
    omega (arith, test, len, below)

pub returns-clause-capacity : goal.returns-clause-capacity
returns-clause-capacity c = c.loop-alloc.invariant.room
