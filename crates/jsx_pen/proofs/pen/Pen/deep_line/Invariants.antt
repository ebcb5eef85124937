use Rattle.std.proofs.Common.{◌≡◌, ◌∷◌}
use Rattle.jsx_pen.specs.Pen.{margin, raw}
use Rattle.jsx_pen.proofs.pen.Pen.deep_line.Given as goal

abbrev pub invariant-loop-level : goal.invariant-loop-level
invariant-loop-level l = l.self ≡ raw l.fn.self (10 ∷ margin l._level)
