use Rattle.std.proofs.Common.{◌≡◌, ◌+◌, ◌-◌, ◌++◌, drop, get_or, length, map, take, arith}
use Rattle.std.proofs.lemmas.List.{get_or_default, length-drop, take_all}
use Rattle.jsx_draw.specs.Drawn.{marks_placed}
use Rattle.jsx_draw.specs.Views.{placed_of, seen_mark}
use Rattle.jsx_draw.proofs.Drawing.{placing_all, placing_step}
use Rattle.jsx_draw.proofs.layout.place_all.Goals as goal

pub loop-i-preserved : goal.loop-i-preserved
loop-i-preserved c =
    let items = c.args.falling.now in
    let i = c.loop-i.i in
    let x = get_or items i c.index-falling-i.result in
    let whole : take (length items - (i + 1)) (drop (i + 1) items) ≡ drop (i + 1) items = take_all (length items - (i + 1)) (drop (i + 1) items) (omega (arith, length-drop (i + 1) items)) in record {
      so = placing_step seen_mark items i x c.loop-i.row c.in_ok-row.row (map placed_of c.loop-i.placed.items) (map placed_of c.place.new.placed.items) (map placed_of c.args.placed.now.items ++ marks_placed 0 (map seen_mark items)) c.loop-i-test.true (get_or_default items i c.index-falling-i.result x c.loop-i-test.true) (rw whole at c.in_ok-row.ensures.placed) (rw whole at c.in_ok-row.ensures.next) c.loop-i.invariant.so;
    }

pub returns : goal.returns
returns c = placing_all seen_mark c.args.falling.now c.loop-i.i c.loop-i.row (map placed_of c.loop-i.placed.items) (map placed_of c.args.placed.now.items ++ marks_placed 0 (map seen_mark c.args.falling.now)) c.loop-i-test.false c.loop-i.invariant.so
