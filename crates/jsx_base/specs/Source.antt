-- Bytes that come in.
use Rattle.std.specs.Prelude.{◌≡◌, ℕ, List, Option}
use Rattle.std.specs.Io.KnownBytes.{prepend_known}
use Rattle.jsx_base.specs.Calls.{Calls}

-- a source gave these bytes; one that doesn't tell what is left still doesn't
abbrev pub Gives : Option (List ℕ) → Option (List ℕ) → List ℕ → Type 0
Gives old new bytes = old ≡ prepend_known bytes new

-- a source in memory: the bytes still to come, and its reads
pub record MemorySource : Type 0 where
  pub left : List ℕ
  pub reads : Calls
