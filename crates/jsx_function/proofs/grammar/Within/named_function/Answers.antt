use Rattle.std.proofs.Common.{◌∙◌}
use Rattle.jsx_operand.proofs.Steps.{passed}
use Rattle.jsx_function.specs.Functions.{parts_of}
use Rattle.jsx_function.proofs.Functions.{named_only, no_named, no_named_code, plain_named}
use Rattle.jsx_function.proofs.grammar.Within.named_function.Goals as goal

pub returns-in_err-name-clause-refused : goal.returns-in_err-name-clause-refused
returns-in_err-name-clause-refused g c = passed _ c.in_err-name.ensures.refused c.from_residual.ensures.1 (λ n. no_named n)

pub returns-in_err-code-clause-refused : goal.returns-in_err-code-clause-refused
returns-in_err-code-clause-refused g c = passed _ c.in_err-code.ensures.refused c.from_residual-in_err-code.ensures.1 (λ n. no_named_code c.in_ok-name.name c.in_ok-name.ensures.read n)

pub returns-clause-read : goal.returns-clause-read
returns-clause-read g c = named_only c.in_ok-name.ensures.read c.in_ok-code.ensures.read

pub returns-clause-plain : goal.returns-clause-plain
returns-clause-plain g c = plain_named c.in_ok-name.name (parts_of c.in_ok-code.code) ∙ c.in_ok-code.ensures.plain

pub returns-clause-placed : goal.returns-clause-placed
returns-clause-placed g c = c.in_ok-name.ensures.placed.on _ _ _ _ c.in_ok-code.ensures.placed
