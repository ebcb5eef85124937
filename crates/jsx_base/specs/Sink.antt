-- Bytes that go out.
use Rattle.std.specs.Prelude.{◌≡◌, ℕ, List, Option, take}
use Rattle.std.specs.Io.KnownBytes.{append_known}
use Rattle.jsx_base.specs.Calls.{Calls}

-- a sink holds these bytes more; one that doesn't tell what it holds still doesn't
abbrev pub Gains : Option (List ℕ) → Option (List ℕ) → List ℕ → Type 0
Gains old new bytes = new ≡ append_known old bytes

-- a sink holds some prefix of these bytes more
abbrev pub GainsPrefix : Option (List ℕ) → Option (List ℕ) → List ℕ → Type 0
GainsPrefix old new bytes = (n : ℕ) × Gains old new (take n bytes)

-- a sink in memory: what it holds, how many bytes more fit, and its writes
pub record MemorySink : Type 0 where
  pub holds : List ℕ
  pub room : ℕ
  pub writes : Calls

-- a sink in memory that never fails: what it holds, and how many bytes more fit
pub record QuietMemorySink : Type 0 where
  pub holds : List ℕ
  pub room : ℕ
