use Rattle.std.proofs.Common.{suc, drop}
use Rattle.jsx_names.specs.Code.{plain_all}
use Rattle.jsx_names.proofs.Scanning.{late_begins, stands_at, late_goes_on, late_found, late_ends}
use Rattle.jsx_names.proofs.late.first_late.Goals as goal

pub loop-i-init : goal.loop-i-init
loop-i-init c = late_begins c.args.events.now _ c.in_ok-ends.ensures c.new.ensures.items c.new-2.ensures.empty

pub returns-then-branch : goal.returns-then-branch
returns-then-branch c = let h = c.loop-i.invariant in
    late_found c.args.events.now c.loop-i.i c.loop-i.scan _ c.in_ok-is_late_at.field-0 c.loop-i-test.true h
    (c.in_ok-is_late_at.ensures.late (plain_all (drop (suc c.loop-i.i) c.args.events.now)) h.known (stands_at c.args.events.now c.loop-i.i _ c.loop-i.scan c.loop-i-test.true h)) c.if-branch.true

pub loop-i-preserved : goal.loop-i-preserved
loop-i-preserved c = let h = c.loop-i.invariant in let es = plain_all (drop (suc c.loop-i.i) c.args.events.now) in let s = stands_at c.args.events.now c.loop-i.i _ c.loop-i.scan c.loop-i-test.true h in
    late_goes_on c.args.events.now c.loop-i.i c.loop-i.scan c.is_late_at.new.scan _ c.in_ok-is_late_at.field-0 c.loop-i-test.true h
    (c.in_ok-is_late_at.ensures.late es h.known s) c.if-branch.false (c.in_ok-is_late_at.ensures.scopes es h.known s) (c.in_ok-is_late_at.ensures.kept es h.known s)

pub returns : goal.returns
returns c = late_ends c.args.events.now c.loop-i.i c.loop-i.scan c.loop-i-test.false c.loop-i.invariant
