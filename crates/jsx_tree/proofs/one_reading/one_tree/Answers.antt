use Rattle.jsx_tree.proofs.OneTree.Whole.{one_tree}
use Rattle.jsx_tree.proofs.one_reading.one_tree.Goals as goal

pub returns : goal.returns
returns c = λ goal text t u r s. one_tree goal text t u r s
