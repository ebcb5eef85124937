use Rattle.std.proofs.Common.{suc, drop}
use Rattle.jsx_names.specs.Code.{plain_all}
use Rattle.jsx_names.proofs.Shadowing.{finding_begins, stands_at, finding_goes_on, finding_ends}
use Rattle.jsx_names.proofs.binding.bindings.Goals as goal

pub loop-i-init : goal.loop-i-init
loop-i-init c = finding_begins c.args.events.now c.new-bound.result c.new-scopes.result.items c.new-found.result.items c.new-bound.ensures.empty c.new-scopes.ensures.items c.new-found.ensures.items

pub loop-i-preserved : goal.loop-i-preserved
loop-i-preserved c = let h = c.loop-i.invariant in
    finding_goes_on c.args.events.now c.loop-i.i c.loop-i.bound c.step.new.bound c.loop-i.scopes.items c.step.new.scopes.items c.loop-i.found.items c.find.new.found.items _ c.loop-i-test.true h
    (c.in_ok-find.ensures h.scopes h.between.binds)
    (c.in_ok-step.ensures (plain_all c.args.events.now) (plain_all (drop (suc c.loop-i.i) c.args.events.now)) h.scopes c.in_ok-lists.ensures (stands_at c.args.events.now c.loop-i.i _ c.loop-i-test.true) h.between)

pub returns : goal.returns
returns c = finding_ends c.args.events.now c.loop-i.i c.loop-i.bound c.loop-i.scopes.items c.loop-i.found.items c.loop-i-test.false c.loop-i.invariant
