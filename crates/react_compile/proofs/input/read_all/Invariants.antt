use Rattle.std.proofs.Common.{◌≡◌, ◌-◌, ◌≤◌, vec_len}
use Rattle.jsx_base.specs.Source.{Gives}
use Rattle.react_compile.proofs.input.read_all.Given as goal

-- what was taken so far is kept in order
abbrev pub invariant-reads : goal.invariant-reads
invariant-reads g l = record {
  taken : Gives (g.S.Source.left l.fn.input) (g.S.Source.left l.input) l.bytes.items;
  faults : g.S.Source.faults l.fn.input ≤ g.S.Source.faults l.input;
  chunk : vec_len l.chunk ≡ 65536;
  few : vec_len l.bytes ≤ 16842752;
}

abbrev pub decreases-reads : goal.decreases-reads
decreases-reads g l = 16777217 - vec_len l.bytes
