use Rattle.std.proofs.Common.{◌∙◌, ap, sym, reverse}
use Rattle.jsx_names.proofs.Collecting.{collecting_begins, collecting_goes_on}
use Rattle.jsx_names.proofs.wanted.declared.Goals as goal

pub loop-event-init : goal.loop-event-init
loop-event-init c = collecting_begins c.args.events.now c.new-passed.result.items c.new-names.result c.new-passed.ensures.items c.new-names.ensures.empty

pub loop-event-preserved : goal.loop-event-preserved
loop-event-preserved c =
    let h = c.loop-event.invariant in
    let over = sym (c.is_over.ensures h.opened (ap reverse c.deref.ensures.value ∙ h.flagged)) ∙ c.if-is_over.false in
    collecting_goes_on c.args.events.now c.loop-event.event-index c.loop-event.passed.items c.enter.new.passed.items c.loop-event.names c.collect.new.names _ c.loop-event-test.true h over
    (c.in_ok-enter.ensures h.opened h.flagged over) (c.in_ok-collect.ensures h.opened h.known (ap reverse c.deref-in-loop-event.ensures.value ∙ h.flagged) h.has)
