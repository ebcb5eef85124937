use Rattle.jsx_tree.proofs.Parentheses.FromReading.{read_sound}
use Rattle.jsx_tree.proofs.Parentheses.Unwrapped.{unwrapped_goal, unwrapped_nf}
use Rattle.jsx_tree.proofs.reading_back.what_reads_is_sound.Goals as goal

pub returns-clause-sound : goal.returns-clause-sound
returns-clause-sound c = λ goal text t n r. read_sound goal text t n r

pub returns-clause-goal : goal.returns-clause-goal
returns-clause-goal c = λ goal t g. unwrapped_goal goal t g

pub returns-clause-same : goal.returns-clause-same
returns-clause-same c = λ t. unwrapped_nf t
