use Rattle.jsx_names.proofs.Numbered.{calls_numbered}
use Rattle.jsx_names.proofs.numbers.calls_are_numbered.Goals as goal

pub returns : goal.returns
returns c = λ es. calls_numbered es
