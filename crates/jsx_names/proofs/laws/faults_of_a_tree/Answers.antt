use Rattle.jsx_names.proofs.Faults.{faults_told}
use Rattle.jsx_names.proofs.laws.faults_of_a_tree.Goals as goal

pub returns : goal.returns
returns c = λ t h. faults_told t h
