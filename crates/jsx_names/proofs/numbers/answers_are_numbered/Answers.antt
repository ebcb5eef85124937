use Rattle.jsx_names.proofs.AnswersByNumber.{answers_by_number}
use Rattle.jsx_names.proofs.numbers.answers_are_numbered.Goals as goal

pub returns : goal.returns
returns c = λ es. answers_by_number es
