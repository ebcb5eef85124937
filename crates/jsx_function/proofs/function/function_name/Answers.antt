use Rattle.std.proofs.Common.{true, false, sym, ◌∙◌, ap}
use Rattle.jsx_token.specs.Here.{place_of}
use Rattle.jsx_operand.proofs.Steps.{passed}
use Rattle.jsx_function.proofs.Functions.{name_absent_placed, name_placed, named, not_named, unnamed}
use Rattle.jsx_function.proofs.function.function_name.Goals as goal

pub returns-then-is_before-clause-read : goal.returns-then-is_before-clause-read
returns-then-is_before-clause-read c = unnamed (ap place_of c.is_before.ensures.stays) (sym c.is_before.ensures.ahead ∙ c.if-is_before.true)

pub returns-then-is_before-clause-placed : goal.returns-then-is_before-clause-placed
returns-then-is_before-clause-placed c = name_absent_placed c.is_before.ensures.stays

pub returns-in_err-name-clause-refused : goal.returns-in_err-name-clause-refused
returns-in_err-name-clause-refused c = passed _ c.in_err-name.ensures.refused c.from_residual.ensures.1
    (λ b. not_named (ap place_of c.is_before.ensures.stays) (sym c.is_before.ensures.ahead ∙ c.if-is_before.false) b)

pub returns-clause-read : goal.returns-clause-read
returns-clause-read c = named (ap place_of c.is_before.ensures.stays) (sym c.is_before.ensures.ahead ∙ c.if-is_before.false) c.in_ok-name.ensures.read

pub returns-clause-placed : goal.returns-clause-placed
returns-clause-placed c = name_placed c.is_before.ensures.stays c.in_ok-name.ensures.placed
