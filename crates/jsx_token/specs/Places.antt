-- The places of tokens, in bytes.
use Rattle.std.specs.Prelude.{◌≡◌, ◌-◌, ◌++◌, ℕ}
use Rattle.jsx_base.specs.Token.{skip}
use Rattle.jsx_base.specs.Lines.{size}
use Rattle.jsx_tree.specs.Signs.{Sign}
use Rattle.jsx_tree.specs.Reading.{forth}
use Rattle.jsx_token.specs.Here.{Here, place_of}

-- where the token that was taken last begins and ends, and where the next one begins
abbrev pub begin_of : Here → ℕ
begin_of h = h.end - size (h.last ++ h.rest)

abbrev pub end_of : Here → ℕ
end_of h = h.end - size h.rest

abbrev pub next_of : Here → ℕ
next_of h = h.end - size (skip h.rest)

-- a sign leads from one place of a text to another
pub record Takes (s : Sign) (x y : Here) : Type 0 where
  pub leads : forth s (place_of x) ≡ place_of y
  pub same : y.end ≡ x.end

-- a text that no tree reads is given up at the token that comes next, or at the one that was taken last
pub data FailsNear (h : Here) (n : ℕ) : Type 0 where
  at_next : n ≡ next_of h → FailsNear h n
  at_last : n ≡ begin_of h → FailsNear h n
