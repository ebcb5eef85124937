use Rattle.std.proofs.Common.{refl}
use Rattle.jsx_tree.proofs.Rows.Steps.{only_sign, no_sign}
use Rattle.jsx_operand.proofs.parser.semicolon.Goals as goal

pub returns-then-semicolon-clause-read : goal.returns-then-semicolon-clause-read
returns-then-semicolon-clause-read c = only_sign (record { is = c.semicolon.ensures.taken c.if-semicolon.true; found = refl })

pub returns-else-semicolon-clause-refused : goal.returns-else-semicolon-clause-refused
returns-else-semicolon-clause-refused c = record { bars = λ at e _. no_sign (record { is = c.semicolon.ensures.missing c.if-semicolon.false }) }
