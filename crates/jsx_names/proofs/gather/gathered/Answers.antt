use Rattle.jsx_names.proofs.Keeping.{gathering_begins, gathering_goes_on, gathering_ends}
use Rattle.jsx_names.proofs.gather.gathered.Goals as goal

pub loop-i-init : goal.loop-i-init
loop-i-init c = gathering_begins c.args.events.now c.new-lists.result c.new-scopes.result.items c.new-lists.ensures.empty c.new-scopes.ensures.items

pub loop-i-preserved : goal.loop-i-preserved
loop-i-preserved c = let h = c.loop-i.invariant in
    gathering_goes_on c.args.events.now c.loop-i.i c.loop-i.lists c.gather.new.lists c.loop-i.scopes.items c.gather.new.scopes.items _ c.loop-i-test.true h
    (c.in_ok-gather.ensures.lists h.homes) c.in_ok-gather.ensures.scopes (c.in_ok-gather.ensures.homes h.homes)

pub returns : goal.returns
returns c = gathering_ends c.args.events.now c.loop-i.i c.loop-i.lists c.loop-i.scopes.items c.loop-i-test.false c.loop-i.invariant
