-- A list is within so many levels where each of its trees is.
use Rattle.std.proofs.Common.{◌≡◌, ℕ, Bool, true, false, refl}
use Rattle.std.specs.Prelude.{◌&&◌}
use Rattle.jsx_tree.specs.Kinds.{Tree, Forest, none, part}
use Rattle.jsx_depth.specs.Fits.{fits, fits_each}

and_true : (b : Bool) → b ≡ (b && true)
and_true true = refl
and_true false = refl

pub each_part : (n : ℕ) (t : Tree) (ts : Forest) → fits_each n (part t ts) ≡ (fits n t && fits_each n ts)
each_part n t none = and_true (fits n t)
each_part n t (part u us) = refl
