use Rattle.jsx_names.proofs.Whole.{clashes_shown}
use Rattle.jsx_names.proofs.laws.clashes_of_a_tree.Goals as goal

pub returns : goal.returns
returns c = λ t. clashes_shown t
