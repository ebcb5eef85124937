use Rattle.std.proofs.Common.{◌≡◌, ◌+◌, subst}
use Rattle.std.specs.Prelude.{IfOk, string_bytes}
use Rattle.std.specs.Str.{chars}
use Rattle.jsx_base.specs.Lines.{front, col_of}
use Rattle.react_compile.specs.Lines.{placed_fault}
use Rattle.react_compile.proofs.error_line.fault_line.Goals as goal

pub returns : goal.returns
returns c =
    subst (λ n. IfOk c.placed_line.result (λ text. string_bytes text ≡ placed_fault c.args.fault.now n (col_of (front (chars c.args.source.now) c.args.at) + 1))) c.spot_in-line.ensures.line
    (subst (λ n. IfOk c.placed_line.result (λ text. string_bytes text ≡ placed_fault c.args.fault.now c.spot_in-line.result.0 n)) c.spot_in-line.ensures.column c.placed_line.ensures)
