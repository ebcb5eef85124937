-- What the code keeps of the declarations so far, by scope and name, and how it tells by that whether one is late.
use Rattle.std.specs.Prelude.{◌≡◌, ℕ, List, [], ◌∷◌, map, reverse, Bool, true, false, cond, ◌&&◌, ◌||◌, nat_eq, nat_lt, max, Option, Some, None}
use Rattle.std.specs.Option.{unwrap_or}
use Rattle.std.specs.Str.{chars, IsUtf8}
use Rattle.std.specs.declared.cmp.Ordering.{Ordering}
use Rattle.std.specs.Ordering.{nat_cmp, ordering_then}
use Rattle.std.specs.Cmp.Lexicographic.{slice_cmp}
use Rattle.std.specs.BTreeSet.{BTreeSet, contains}
use Rattle.std.specs.BTreeMap.{BTreeMap, get}
use denote.Ref.{Bor}
use Rattle.jsx_base.specs.Token.{Text, same}
use Rattle.jsx_tree.specs.Scopes.{Sort, AsVar, AsParameter, AsFunction, AsLexical}
use Rattle.jsx_tree.specs.Clashes.{clash}
use Rattle.jsx_names.specs.Faults as faults
use Rattle.jsx_names.specs.Faults.{Noted, is_among}
use Rattle.jsx_names.specs.declared.seen.Seen.{Seen}
use Rattle.jsx_names.specs.declared.seen.Extent.{Extent}

-- a set has these names
abbrev pub Has : BTreeSet (Bor (List ℕ)) → List Text → Type 0
Has s us = (w : Bor (List ℕ)) → IsUtf8 w.now → contains (λ x y. slice_cmp nat_cmp x.now y.now) s w ≡ is_among (chars w.now) us

abbrev pub extent_of : Extent → faults.Extent
extent_of n = record { begin = n.begin; end' = n.end; home = n.home; wide = n.is_wide }

-- the scopes that stand open, the innermost first
abbrev pub stack : List Extent → List faults.Extent
stack ns = reverse (map extent_of ns)

abbrev pub innermost : List faults.Extent → Option faults.Extent
innermost [] = None
innermost (n ∷ ns) = Some n

abbrev pub Key : Type 0
Key = ℕ × Bor (List ℕ)

abbrev pub key_cmp : Key → Key → Ordering
key_cmp x y = ordering_then (nat_cmp x.0 y.0) (slice_cmp nat_cmp x.1.now y.1.now)

abbrev pub unseen : Seen
unseen = record { parameter = false; function = false; lexical = false; last_var = 0; last_end = 0 }

abbrev pub seen_in : BTreeMap Key Seen → ℕ → Bor (List ℕ) → Seen
seen_in m n w = unwrap_or (get key_cmp m (n, w)) unseen

-- with what was declared in the scope itself
abbrev pub stood : Sort → Seen → Seen
stood AsVar x = x
stood AsParameter x = record x { parameter = true }
stood AsFunction x = record x { function = true }
stood AsLexical x = record x { lexical = true }

-- with what was declared in a scope whose `var` names go to this one
abbrev pub reached : Sort → ℕ → faults.Extent → Seen → Seen
reached AsVar i n x = record x { last_var = max x.last_var i }
reached s i n x = cond (clash n.wide s AsVar) (record x { last_end = max x.last_end n.end' }) x

abbrev pub standing : ℕ → Text → Noted → Seen → Seen
standing b t k x = cond (nat_eq k.scope.begin b && same t k.name) (stood k.sort x) x

abbrev pub going : ℕ → Text → Noted → Seen → Seen
going b t k x = cond (nat_eq k.scope.home b && same t k.name) (reached k.sort k.at k.scope x) x

-- what is to be kept of these declarations, for a scope and a name
abbrev pub seen_by : ℕ → Text → List Noted → Seen
seen_by b t [] = unseen
seen_by b t (k ∷ ks) = going b t k (standing b t k (seen_by b t ks))

abbrev pub Tells : BTreeMap Key Seen → List Noted → Type 0
Tells m ks = (n : ℕ) (w : Bor (List ℕ)) → IsUtf8 w.now → seen_in m n w ≡ seen_by n (chars w.now) ks

-- whether a declaration of sort s clashes with one in the same scope, not by `var`
abbrev pub clashes_here : Bool → Sort → Seen → Bool
clashes_here wide s x = (x.parameter && clash wide AsParameter s) || ((x.function && clash wide AsFunction s) || (x.lexical && clash wide AsLexical s))

abbrev pub tells_late : Seen → Seen → Sort → ℕ → faults.Extent → Bool
tells_late own home AsVar i n = nat_lt i home.last_end
tells_late own home s i n = clashes_here n.wide s own || (nat_lt n.begin home.last_var && clash n.wide AsVar s)
