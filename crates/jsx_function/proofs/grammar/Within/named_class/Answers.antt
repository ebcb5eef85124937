use Rattle.jsx_operand.proofs.Steps.{passed}
use Rattle.jsx_function.specs.Classes.{class_parts}
use Rattle.jsx_function.proofs.Classes.{named_kept, named_none, named_only}
use Rattle.jsx_function.proofs.grammar.Within.named_class.Goals as goal

pub returns-in_err-name-clause-refused : goal.returns-in_err-name-clause-refused
returns-in_err-name-clause-refused g c = passed _ c.in_err-name.ensures.refused c.from_residual.ensures.1 (λ n. n)

pub returns-in_err-code-clause-refused : goal.returns-in_err-code-clause-refused
returns-in_err-code-clause-refused g c = passed _ c.in_err-code.ensures.refused c.from_residual-in_err-code.ensures.1 (λ n. named_none c.in_ok-name.name c.in_ok-name.ensures.read n)

pub returns-clause-read : goal.returns-clause-read
returns-clause-read g c = named_only c.in_ok-name.ensures.read c.in_ok-code.ensures.read

pub returns-clause-kept : goal.returns-clause-kept
returns-clause-kept g c = named_kept c.in_ok-name.name (class_parts c.in_ok-code.code) c.in_ok-code.ensures.kept

pub returns-clause-placed : goal.returns-clause-placed
returns-clause-placed g c = c.in_ok-name.ensures.placed.on _ _ _ _ c.in_ok-code.ensures.placed
