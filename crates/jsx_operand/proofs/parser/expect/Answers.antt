use Rattle.std.proofs.Common.{refl}
use Rattle.jsx_tree.proofs.Rows.Steps.{only_sign, no_sign}
use Rattle.jsx_operand.proofs.parser.expect.Goals as goal

pub returns-then-take-clause-read : goal.returns-then-take-clause-read
returns-then-take-clause-read c = only_sign (record { is = c.take.ensures.taken c.if-take.true; found = refl })

pub returns-else-take-clause-refused : goal.returns-else-take-clause-refused
returns-else-take-clause-refused c = record { bars = λ at e _. no_sign (record { is = c.take.ensures.missing c.if-take.false }) }
