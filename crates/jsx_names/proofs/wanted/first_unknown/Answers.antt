use Rattle.std.proofs.Common.{◌∙◌}
use Rattle.jsx_names.proofs.Collecting.{unknown_goes_on}
use Rattle.jsx_names.proofs.wanted.first_unknown.Goals as goal

pub loop-i-preserved : goal.loop-i-preserved
loop-i-preserved c = λ ds k. c.loop-i.invariant ds k ∙ unknown_goes_on c.args.events.now c.loop-i.i ds _ c.is_unknown.result c.loop-i-test.true (c.is_unknown.ensures ds k) c.if-is_unknown.false
