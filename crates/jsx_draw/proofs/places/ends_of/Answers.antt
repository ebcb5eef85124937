use Rattle.std.proofs.Common.{refl}
use Rattle.jsx_base.specs.Locs.{loc_data}
use Rattle.jsx_draw.proofs.Ends.{both_ends, ends_later, no_second}
use Rattle.jsx_draw.proofs.places.ends_of.Goals as goal

pub returns-then-deref-in_order : goal.returns-then-deref-in_order
returns-then-deref-in_order g c =
    ends_later (g.M.SourceMapper.files c.args.map.now) c.args.span c.is_dummy.result c.in_ok-first.first.file.now.value (loc_data c.in_ok-first.first) c.is_dummy.ensures.zero c.if-is_dummy.false refl
    (rw c.new-in_order.ensures.lo at c.in_ok-first.ensures)
    (rw (c.deref.ensures, c.new-in_order.ensures.hi) at c.if-deref-in_order.true)

pub returns-in_err-last : goal.returns-in_err-last
returns-in_err-last g c =
    absurd (no_second (g.M.SourceMapper.files c.args.map.now) c.args.span c.in_ok-first.first.file.now.value (loc_data c.in_ok-first.first) (g.met.M.SourceMapper.in_order c.args.map.now) refl
    (rw c.new-in_order.ensures.lo at c.in_ok-first.ensures)
    (rw (c.deref.ensures, c.new-in_order.ensures.hi) at c.if-deref-in_order.false)
    (rw c.new-in_order.ensures.hi at c.in_err-last.ensures))

pub returns : goal.returns
returns g c =
    both_ends (g.M.SourceMapper.files c.args.map.now) c.args.span c.is_dummy.result c.in_ok-first.first.file.now.value (loc_data c.in_ok-first.first) (loc_data c.in_ok-last.last) (g.met.M.SourceMapper.in_order c.args.map.now) c.is_dummy.ensures.zero c.if-is_dummy.false refl
    (rw c.new-in_order.ensures.lo at c.in_ok-first.ensures)
    (rw (c.deref.ensures, c.new-in_order.ensures.hi) at c.if-deref-in_order.false)
    (rw c.new-in_order.ensures.hi at c.in_ok-last.ensures)
