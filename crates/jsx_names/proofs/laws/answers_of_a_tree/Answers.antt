use Rattle.jsx_names.proofs.Whole.{answers_resolved}
use Rattle.jsx_names.proofs.laws.answers_of_a_tree.Goals as goal

pub returns : goal.returns
returns c = λ t. answers_resolved t
