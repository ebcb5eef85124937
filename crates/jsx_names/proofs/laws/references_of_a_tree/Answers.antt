use Rattle.jsx_names.proofs.Refers.{answers_referred, references_told}
use Rattle.jsx_names.proofs.laws.references_of_a_tree.Goals as goal

pub returns-clause-told : goal.returns-clause-told
returns-clause-told c = λ t p h. references_told t p h

pub returns-clause-all : goal.returns-clause-all
returns-clause-all c = λ t h. answers_referred t h
