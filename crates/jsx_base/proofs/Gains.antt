-- What a sink gains over several writes.
use Rattle.std.proofs.Common.{◌≡◌, ℕ, ◌+◌, min, List, ◌++◌, length, take, Option, None, Some, ap, ◌∙◌, append_assoc, arith}
use Rattle.std.proofs.Math.Seq.{take-append-add}
use Rattle.std.proofs.lemmas.List.{take-append-le, take_min}
use Rattle.jsx_base.specs.Sink.{Gains, GainsPrefix}

-- one write after the other
pub Gains-append : (a b c : Option (List ℕ)) (xs ys : List ℕ) → Gains a b xs → Gains b c ys → Gains a c (xs ++ ys)
Gains-append None b c xs ys first second = cc
Gains-append (Some held) b c xs ys first second = rw (second, first) (ap Some (append_assoc held xs ys))

take-min-append : (n : ℕ) (xs ys : List ℕ) → take (min n (length xs)) (xs ++ ys) ≡ take n xs
take-min-append n xs ys =
    take-append-le (min n (length xs)) xs ys (omega arith) ∙ take_min n xs

-- a write that failed, of which more was to follow
pub GainsPrefix-more : (a b : Option (List ℕ)) (xs ys : List ℕ) → GainsPrefix a b xs → GainsPrefix a b (xs ++ ys)
GainsPrefix-more a b xs ys (n, gained) = (min n (length xs), rw take-min-append gained)

-- a write that failed after one that did not
pub GainsPrefix-append : (a b c : Option (List ℕ)) (xs ys : List ℕ) → Gains a b xs → GainsPrefix b c ys → GainsPrefix a c (xs ++ ys)
GainsPrefix-append a b c xs ys first (n, second) =
    (length xs + n, rw take-append-add (Gains-append a b c xs (take n ys) first second))
