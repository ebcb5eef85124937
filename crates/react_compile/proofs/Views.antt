-- The views of what is made.
use Rattle.jsx_tree.proofs.Views as all

pub ruleset views = (all.views)
