use Rattle.std.proofs.Common.{[], sym}
use Rattle.jsx_tree.specs.Kinds.{Script, program}
use Rattle.jsx_tree.specs.Nonterminals.{WholeProgram}
use Rattle.jsx_names.specs.Events.{Plain}
use Rattle.jsx_names.proofs.Heard.{heard_tree}
use Rattle.jsx_names.proofs.Orderly.{first_by_number}
use Rattle.jsx_names.proofs.Pathless.{first_alike, calls_alike}
use Rattle.jsx_names.proofs.laws.faults_in_order.Goals as goal

pub returns-clause-placed : goal.returns-clause-placed
returns-clause-placed c = λ t h. first_by_number t h

pub returns-clause-heard : goal.returns-clause-heard
returns-clause-heard c = λ t. sym (heard_tree Plain (program Script) WholeProgram [] t)

pub returns-clause-bare : goal.returns-clause-bare
returns-clause-bare c = λ es. first_alike es

pub returns-clause-calls : goal.returns-clause-calls
returns-clause-calls c = λ es. calls_alike es
