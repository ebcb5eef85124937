use Rattle.jsx_operand.proofs.Steps.{passed, passed_in}
use Rattle.jsx_function.proofs.Inside.{deep_behind, from_inside}
use Rattle.jsx_function.proofs.Keyed.{from_barred, from_none, from_only}
use Rattle.jsx_function.proofs.grammar.Within.setter_member.Goals as goal

pub returns-in_err-within_leaf-clause-refused : goal.returns-in_err-within_leaf-clause-refused
returns-in_err-within_leaf-clause-refused g c = passed _ c.in_err-within_leaf.ensures.refused c.from_residual.ensures.1 (λ b. from_barred (deep_behind _ b))

pub returns-in_err-key-clause-refused : goal.returns-in_err-key-clause-refused
returns-in_err-key-clause-refused g c = passed _ c.in_err-key.ensures.refused c.from_residual-in_err-key.ensures.1 (λ b. from_barred b)

pub returns-in_err-setter-clause-refused : goal.returns-in_err-setter-clause-refused
returns-in_err-setter-clause-refused g c = passed_in _ c.in_ok-key.ensures.levels c.in_err-setter.ensures.refused c.from_residual-in_err-setter.ensures.1 (λ n. from_inside (from_none c.in_ok-key.ensures.read n))

pub returns-clause-read : goal.returns-clause-read
returns-clause-read g c = from_only c.in_ok-key.ensures.read c.in_ok-setter.ensures.read

pub returns-clause-placed : goal.returns-clause-placed
returns-clause-placed g c = record { on = λ a words begins. c.in_ok-setter.ensures.placed.on a _ words begins c.in_ok-key.ensures.placed }
