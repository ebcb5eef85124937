use Rattle.jsx_names.proofs.Numbered.{faults_numbered}
use Rattle.jsx_names.proofs.numbers.faults_are_numbered.Goals as goal

pub returns : goal.returns
returns c = λ P es. faults_numbered P es
