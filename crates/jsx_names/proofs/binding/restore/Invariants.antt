use Rattle.std.proofs.Common.{◌≡◌, ◌≤◌, ℕ, List, length, reverse, take}
use Rattle.std.specs.Str.{chars, IsUtf8}
use denote.Ref.{Bor}
use Rattle.jsx_names.specs.Shadowed.{bound_in, restored}
use Rattle.jsx_names.proofs.binding.restore.Given as goal

abbrev pub invariant-loop-at : goal.invariant-loop-at
invariant-loop-at l = record {
  most : l.at ≤ length l.saved;
  back : (w : Bor (List ℕ)) → IsUtf8 w.now → restored (reverse (take l.at l.saved)) (chars w.now) (bound_in l.bound w) ≡ restored (reverse l.saved) (chars w.now) (bound_in l.fn.bound w);
}

abbrev pub decreases-loop-at : goal.decreases-loop-at
decreases-loop-at l = l.at
