-- What each scope declares, of all that is declared, and what of that is seen in it.
use Rattle.std.specs.Prelude.{ℕ, suc, List, [], ◌∷◌, ◌++◌, Bool, true, false, cond, not, ◌&&◌, ◌||◌, nat_eq, Option, Some, None}
use Rattle.jsx_base.specs.Token.{Text, same}
use Rattle.jsx_tree.specs.Scopes.{is_of_parameter, is_var}
use Rattle.jsx_names.specs.Events.{Frame, OfFunction, OfBlock, OfCatch, Event, Opens, Closes, Declares}
use Rattle.jsx_names.specs.Answers.{Named, is_passed, named}

-- a scope that stands open, by the number of the event that begins it
pub record Begun : Type 0 where
  pub number : ℕ
  pub frame : Frame

abbrev pub begun : ℕ → Frame → Begun
begun i f = record { number = i; frame = f }

abbrev pub outer : List Begun → List Begun
outer [] = []
outer (k ∷ ks) = ks

-- where a `var` goes from inside of these scopes, the innermost first
abbrev pub home_of : List Begun → Option ℕ
home_of [] = None
home_of (k ∷ ks) = cond (is_passed k.frame) (home_of ks) (Some k.number)

-- what scope b keeps of a declaration inside of these scopes: what stands in it, and each `var` that goes to it. A `var` that stands in a head is kept by each scope that it goes through as well: catch clauses show those.
abbrev pub given : ℕ → Named → List Begun → List Named
given b n [] = []
given b n (k ∷ ks) = cond (is_var n.is.sort && is_passed k.frame) (cond (n.head && nat_eq k.number b) (n ∷ []) [] ++ given b n ks) (cond (nat_eq k.number b) (n ∷ []) [])

-- what it keeps of event i, and the scopes behind that
abbrev pub giving : ℕ → List Begun → Event → List Named
giving b ks (Declares h s t p) = given b (named h s t p) ks
giving b ks e = []

abbrev pub behind : ℕ → List Begun → Event → List Begun
behind i ks (Opens f p) = begun i f ∷ ks
behind i ks Closes = outer ks
behind i ks e = ks

-- what it keeps of the events from number i on
abbrev pub gathered : ℕ → ℕ → List Begun → List Event → List Named
gathered b i ks [] = []
gathered b i ks (e ∷ es) = giving b ks e ++ gathered b (suc i) (behind i ks e) es

-- whether a declaration is seen where its scope begins, or behind the head
abbrev pub shows : Bool → Frame → Named → Bool
shows false OfFunction n = is_of_parameter n.is.sort
shows true OfFunction n = true
shows false OfCatch n = n.head
shows true OfCatch n = not (is_var n.is.sort)
shows q OfBlock n = not (is_var n.is.sort)
shows q f n = true

-- whether one of that name is
abbrev pub is_shown : Bool → Frame → Text → List Named → Bool
is_shown q f t [] = false
is_shown q f t (n ∷ ns) = (shows q f n && same t n.is.name) || is_shown q f t ns
