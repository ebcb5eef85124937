use Rattle.jsx_names.proofs.Leasts.{faulty_least}
use Rattle.jsx_names.proofs.numbers.first_is_least.Goals as goal

pub returns : goal.returns
returns c = λ es. faulty_least es
