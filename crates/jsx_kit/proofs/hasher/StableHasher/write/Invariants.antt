use Rattle.std.proofs.Common.{◌≡◌, ℕ, List, ◌++◌, ◌+◌, ◌*◌, ◌%◌, ◌^◌, ◌≤◌, length, take}
use Rattle.jsx_kit.specs.SipHash.{IsAbsorbed, Holds}
use Rattle.jsx_kit.proofs.hasher.StableHasher.write.Given as goal

abbrev pub invariant-words : goal.invariant-words
invariant-words l =
    (l.self.count ≡ (l.fn.self.count + length l.bytes) % 2 ^ 64) × (l.start + 8 * l.i ≤ length l.bytes)
    × ((m : List ℕ) → Holds l.fn.self m → IsAbsorbed l.self.state l.self.buffer (m ++ take (l.start + 8 * l.i) l.bytes) × ((length m + l.start) % 8 ≡ 0))
