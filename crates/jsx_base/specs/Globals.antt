-- The numbers that are still free.
use Rattle.std.specs.Prelude.{ℕ}

pub record FreeMarksAndPlaces : Type 0 where
  pub next_mark : ℕ
  pub next_pos : ℕ
