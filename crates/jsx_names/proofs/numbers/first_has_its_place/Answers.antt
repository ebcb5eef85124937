use Rattle.jsx_names.proofs.FirstFault.{first_fault_is}
use Rattle.jsx_names.proofs.numbers.first_has_its_place.Goals as goal

pub returns : goal.returns
returns c = λ es r. first_fault_is es r
