-- The exit statuses.
use Rattle.std.specs.Prelude.{ℕ}
use Rattle.react_compile.specs.declared.program.Status.{Status}
use Rattle.react_compile.specs.declared.program.Status.TheVariants.{Done, Fault, Usage, Read, Write, Memory}

abbrev pub exit_code : Status → ℕ
exit_code Done = 0
exit_code Fault = 1
exit_code Usage = 2
exit_code Read = 3
exit_code Write = 4
exit_code Memory = 5

-- a status that goes with a line of its own
abbrev pub IsTold : Status → Type 0
IsTold Fault = Unit {0}
IsTold Usage = Unit {0}
IsTold Read = Unit {0}
IsTold s = ⊥
