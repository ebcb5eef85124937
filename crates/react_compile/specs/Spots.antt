-- The line and the column that a walk over a text has come to, both from 1.
use Rattle.std.specs.Prelude.{ℕ, ◌+◌, List, [], ◌∷◌, cond, nat_eq}

-- behind one character more
abbrev pub past : ℕ → ℕ × ℕ → ℕ × ℕ
past c spot = cond (nat_eq c 10) (spot.0 + 1, 1) (spot.0, spot.1 + 1)

-- behind a whole text
abbrev pub behind : ℕ × ℕ → List ℕ → ℕ × ℕ
behind spot [] = spot
behind spot (c ∷ text) = behind (past c spot) text
