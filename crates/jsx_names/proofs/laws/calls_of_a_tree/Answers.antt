use Rattle.jsx_names.proofs.Whole.{calls_told}
use Rattle.jsx_names.proofs.laws.calls_of_a_tree.Goals as goal

pub returns : goal.returns
returns c = λ t h. calls_told t h
