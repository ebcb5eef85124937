-- The calls of a memory source or sink.
use Rattle.std.specs.Prelude.{ℕ, List, Contains}

-- the numbers of the calls that fail, the number of the next call, and how many have failed
pub record Calls : Type 0 where
  pub fail : List ℕ
  pub next : ℕ
  pub faults : ℕ

-- the next call is one of those that fail
abbrev pub NextFails : Calls → Type 0
NextFails calls = Contains calls.fail calls.next
