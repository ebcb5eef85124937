use Rattle.std.proofs.Common.{◌≡◌}
use Rattle.jsx_tree.specs.ViewProgram.{view_item}
use Rattle.jsx_depth.specs.Fits.{fits}
use Rattle.jsx_depth.proofs.Lists.{all_fit, from}
use Rattle.jsx_depth.proofs.program.fits_items.Given as goal

abbrev pub invariant-loop-item : goal.invariant-loop-item
invariant-loop-item l = all_fit (λ x. fits l.levels (view_item x)) l.items ≡ from (λ x. fits l.levels (view_item x)) l.item-index l.items
