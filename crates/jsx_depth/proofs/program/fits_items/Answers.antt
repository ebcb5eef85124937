use Rattle.std.proofs.Common.{arith, sym, ◌∙◌}
use Rattle.jsx_tree.specs.ViewProgram.{view_item}
use Rattle.jsx_depth.specs.Fits.{fits}
use Rattle.jsx_depth.proofs.Lists.{ended, failed, forest_fit, past}
use Rattle.jsx_depth.proofs.program.fits_items.Goals as goal

pub loop-item-preserved : goal.loop-item-preserved
loop-item-preserved c = past (λ x. fits c.args.levels (view_item x)) c.args.items.now c.loop-item.item-index c.item-item.result (omega arith) c.item-item.is (sym c.fits_item.ensures ∙ c.if-not-fits_item.false) c.loop-item.invariant

pub returns-then-not-fits_item : goal.returns-then-not-fits_item
returns-then-not-fits_item c = failed (λ x. fits c.args.levels (view_item x)) c.args.items.now c.loop-item.item-index c.item-item.result (omega arith) c.item-item.is (sym c.fits_item.ensures ∙ c.if-not-fits_item.true) c.loop-item.invariant ∙ sym (forest_fit c.args.levels view_item c.args.items.now)

pub returns : goal.returns
returns c = ended (λ x. fits c.args.levels (view_item x)) c.args.items.now c.loop-item.item-index (omega arith) c.loop-item.invariant ∙ sym (forest_fit c.args.levels view_item c.args.items.now)
