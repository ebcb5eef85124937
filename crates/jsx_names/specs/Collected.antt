-- What a scope declares, event by event.
use Rattle.std.specs.Prelude.{◌≡◌, ℕ, List, [], ◌∷◌, Bool, true, false, cond}
use Rattle.std.specs.Str.{chars, IsUtf8}
use Rattle.std.specs.Ordering.{nat_cmp}
use Rattle.std.specs.Cmp.Lexicographic.{slice_cmp}
use Rattle.std.specs.BTreeSet.{BTreeSet, contains}
use denote.Ref.{Bor}
use Rattle.jsx_base.specs.Token.{Text}
use Rattle.jsx_tree.specs.Scopes.{Declaration, is_declared}
use Rattle.jsx_names.specs.Events.{Frame, Event, Opens, Closes, Declares}
use Rattle.jsx_names.specs.Answers.{are_passed, reaches}

-- a set has the names of these declarations
abbrev pub Knows : BTreeSet (Bor (List ℕ)) → List Declaration → Type 0
Knows s ds = (w : Bor (List ℕ)) → IsUtf8 w.now → contains (λ x y. slice_cmp nat_cmp x.now y.now) s w ≡ is_declared (chars w.now) ds

-- for each scope that stands open, the innermost first, whether a `var` in it goes through it and all around it
abbrev pub flags : List Frame → List Bool
flags [] = []
flags (f ∷ fs) = are_passed (f ∷ fs) ∷ flags fs

-- the innermost of them
abbrev pub all_open : List Bool → Bool
all_open [] = true
all_open (b ∷ bs) = b

abbrev pub is_over : List Frame → Event → Bool
is_over [] Closes = true
is_over fs e = false

abbrev pub without : List Frame → List Frame
without [] = []
without (f ∷ fs) = fs

-- the scopes that stand open behind an event
abbrev pub opening : List Frame → Event → List Frame
opening fs (Opens f p) = f ∷ fs
opening fs Closes = without fs
opening fs e = fs

-- the name that it declares in the scope
abbrev pub naming : List Frame → Event → List Text
naming fs (Declares h s t p) = cond (reaches s fs) (t ∷ []) []
naming fs e = []
