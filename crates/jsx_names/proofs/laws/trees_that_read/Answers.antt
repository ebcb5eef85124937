use Rattle.jsx_names.proofs.BareTrees.{read_proper, read_bare}
use Rattle.jsx_names.proofs.laws.trees_that_read.Goals as goal

pub returns-clause-written : goal.returns-clause-written
returns-clause-written c = λ g text t r. read_proper g text t r

pub returns-clause-bare : goal.returns-clause-bare
returns-clause-bare c = λ g text t r. read_bare g text t r
