-- Where each scope of a list of events ends.
use Rattle.std.specs.Prelude.{◌≡◌, ℕ, suc, List, [], ◌∷◌, ◌++◌, get_or, reverse}
use Rattle.jsx_names.specs.Events.{Event, Opens}
use Rattle.jsx_names.specs.Faults.{end_of}

-- of those that begin among the events from number i on, the first one last
abbrev pub ends_of : ℕ → List Event → List ℕ
ends_of i [] = []
ends_of i (Opens f p ∷ es) = ends_of (suc i) es ++ end_of 0 (suc i) es ∷ []
ends_of i (e ∷ es) = ends_of (suc i) es

-- whether xs are the ends of the scopes around the events from number i on, the innermost last; those that don't end there have n
abbrev pub IsClosed : List ℕ → ℕ → ℕ → List Event → Type 0
IsClosed xs n i es = (d : ℕ) → get_or (reverse xs) d n ≡ end_of d i es
