-- The least of some numbers, and when the first event in the order of the list is the first in the order of places.
use Rattle.std.specs.Prelude.{◌≡◌, ℕ, List, [], Bool, true, false, ◌||◌, not, nat_eq, nat_lt, Option, Some, None, ⊤}
use Rattle.std.specs.List.{list_any}
use Rattle.jsx_base.specs.Token.{same}
use Rattle.jsx_tree.specs.Clashes.{Place, AtName, AtDefault, is_before, path_of}
use Rattle.jsx_names.specs.Events.{Event}
use Rattle.jsx_names.specs.Faults.{faulty, placed_at}

-- it is one of them, and none is less
pub record IsLeast (k : ℕ) (xs : List ℕ) : Type 0 where
  pub among : list_any (nat_eq k) xs ≡ true
  pub none_less : list_any (λ j. nat_lt j k) xs ≡ false

-- where there is none, the list is empty
abbrev pub IsLeastOf : Option ℕ → List ℕ → Type 0
IsLeastOf None xs = xs ≡ []
IsLeastOf (Some k) xs = IsLeast k xs

abbrev pub same_place : Place → Place → Bool
same_place (AtName p) (AtName q) = same p q
same_place (AtDefault p) (AtDefault q) = same p q
same_place a b = false

-- whether b stands neither behind a nor at it
abbrev pub is_out : Place → Place → Bool
is_out a b = is_before (path_of b) (path_of a) || not (same_place a b || is_before (path_of a) (path_of b))

-- no early error stands before that of the event with this number, as in the events of a tree, whose paths rise
abbrev pub IsOrdered : Option ℕ → List Event → Type 0
IsOrdered None es = ⊤
IsOrdered (Some k) es = list_any (λ j. is_out (placed_at es k) (placed_at es j)) (faulty es) ≡ false
