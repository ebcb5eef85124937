use Rattle.jsx_names.proofs.Going.{again_begins, again_goes_on, again_found, again_ends}
use Rattle.jsx_names.proofs.again.first_again.Goals as goal

pub loop-i-init : goal.loop-i-init
loop-i-init c = again_begins c.args.events.now c.new-exported.result c.new-exported.ensures.empty

pub returns-then-branch : goal.returns-then-branch
returns-then-branch c = let h = c.loop-i.invariant in again_found c.args.events.now c.loop-i.i c.loop-i.exported _ c.in_ok-is_again.field-0 c.loop-i-test.true h (c.in_ok-is_again.ensures.again h.names h.has) c.if-branch.true

pub loop-i-preserved : goal.loop-i-preserved
loop-i-preserved c = let h = c.loop-i.invariant in again_goes_on c.args.events.now c.loop-i.i c.loop-i.exported c.is_again.new.exported _ c.in_ok-is_again.field-0 c.loop-i-test.true h (c.in_ok-is_again.ensures.again h.names h.has) c.if-branch.false (c.in_ok-is_again.ensures.kept h.names h.has)

pub returns : goal.returns
returns c = again_ends c.args.events.now c.loop-i.i c.loop-i.exported c.loop-i-test.false c.loop-i.invariant
