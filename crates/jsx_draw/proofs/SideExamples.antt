-- The columns of bars, computed as rustc gives them.
use Rattle.std.specs.Prelude.{ℕ, List, [], ◌∷◌, None, true, map, codes, refl, ◌≡◌}
use Rattle.jsx_base.specs.FileName.{RealName}
use Rattle.jsx_base.specs.Files.{File, Place}
use Rattle.jsx_draw.specs.Spots.{Spot}
use Rattle.jsx_draw.specs.Drawn.{side_by_side}

file : File
file = record { name = RealName (codes "x.js"); text = []; start = 1 }

place : ℕ → ℕ → Place
place line col = record { file = file; line = line; col = col; col_display = col }

-- from one line to another
over : ℕ → ℕ → Spot
over first last = record { file = file; reach = record { first = place first 0; last = place last 1 }; is_primary = true; label = None }

columns : List Spot → List ℕ
columns spots = map (λ it. it.depth) (side_by_side spots)

one_below_the_other : columns (over 1 2 ∷ over 4 6 ∷ []) ≡ 1 ∷ 1 ∷ []
unfolding columns over place file
one_below_the_other = refl

beside : columns (over 1 4 ∷ over 2 6 ∷ []) ≡ 2 ∷ 1 ∷ []
unfolding columns over place file
beside = refl

three : columns (over 1 9 ∷ over 2 8 ∷ over 3 7 ∷ []) ≡ 3 ∷ 2 ∷ 1 ∷ []
unfolding columns over place file
three = refl

-- two that are drawn alike are one to the walk
twice : columns (over 1 4 ∷ over 1 4 ∷ []) ≡ 1 ∷ 1 ∷ []
unfolding columns over place file
twice = refl

-- the third doesn't reach the second, since it shares no line with the first
walk_ends : columns (over 1 3 ∷ over 2 6 ∷ over 5 8 ∷ []) ≡ 2 ∷ 1 ∷ 1 ∷ []
unfolding columns over place file
walk_ends = refl
