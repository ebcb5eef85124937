-- Which events of a list are early errors, by their numbers in the list: declarations that clash with one before them, names that are exported again, names that are exported and not declared, and the direct calls of `eval`.
use Rattle.std.specs.Prelude.{ℕ, zero, suc, List, [], ◌∷◌, ◌++◌, Bool, false, cond, not, ◌&&◌, ◌||◌, nat_eq, nat_lt, drop, Option, Some, None}
use Rattle.jsx_base.specs.Token.{Text, same}
use Rattle.jsx_tree.specs.Scopes.{Path, Sort, AsVar, Declaration, is_declared}
use Rattle.jsx_tree.specs.Clashes.{Place, AtName, clash}
use Rattle.jsx_names.specs.Events.{Frame, OfModule, Event, Opens, Closes, Declares, Exports, Wants, Evals}
use Rattle.jsx_names.specs.Answers.{is_passed, is_wide, collected, all_of}

-- where the scope around the events from number i on ends; d scopes have begun in it
abbrev pub end_of : ℕ → ℕ → List Event → ℕ
end_of d i [] = i
end_of d i (Opens f p ∷ es) = end_of (suc d) (suc i) es
end_of zero i (Closes ∷ es) = i
end_of (suc d) i (Closes ∷ es) = end_of d (suc i) es
end_of d i (e ∷ es) = end_of d (suc i) es

-- a scope: the events that begin and end it, the event that begins the scope to which its `var` names go, and whether functions, `var` names and parameters may meet in it
pub record Extent : Type 0 where
  pub begin : ℕ
  pub end' : ℕ
  pub home : ℕ
  pub wide : Bool

-- where `var` names go from inside of these scopes, the innermost first
abbrev pub home_in : ℕ → List Extent → ℕ
home_in i [] = i
home_in i (n ∷ ns) = n.home

-- the scope that event i begins
abbrev pub extent : Frame → ℕ → List Extent → List Event → Extent
extent f i ns es = record { begin = i; end' = end_of 0 (suc i) es; home = cond (is_passed f) (home_in i ns) i; wide = is_wide f }

-- a declaration: its event, and the scope that it stands in
pub record Noted : Type 0 where
  pub sort : Sort
  pub name : Text
  pub at : ℕ
  pub scope : Extent

abbrev pub noted : Sort → Text → ℕ → Extent → Noted
noted s t i n = record { sort = s; name = t; at = i; scope = n }

-- whether a declaration of sort r clashes with a later one of the same name, of sort s at event i in the scope n. Two that aren't `var` meet in a scope where both stand. A `var` meets what stands in a scope that it goes through: that scope has begun before the `var` and ends behind it, and the `var` names of both go to one scope.
abbrev pub meets : Sort → Sort → Noted → ℕ → Extent → Bool
meets AsVar AsVar k i n = false
meets AsVar s k i n = nat_eq k.scope.home n.home && (nat_lt n.begin k.at && clash n.wide AsVar s)
meets r AsVar k i n = nat_eq k.scope.home n.home && (nat_lt i k.scope.end' && clash k.scope.wide r AsVar)
meets r s k i n = nat_eq k.scope.begin n.begin && clash n.wide r s

abbrev pub is_late : Sort → Text → ℕ → Extent → List Noted → Bool
is_late s t i n [] = false
is_late s t i n (k ∷ ks) = (same t k.name && meets k.sort s k i n) || is_late s t i n ks

abbrev pub outside : List Extent → List Extent
outside [] = []
outside (n ∷ ns) = ns

-- whether event i is a declaration that clashes with one before it, in the scopes ns and behind the declarations ks
abbrev pub is_late_at : ℕ → List Extent → List Noted → Event → Bool
is_late_at i (n ∷ ns) ks (Declares h s t p) = is_late s t i n ks
is_late_at i ns ks e = false

-- the scopes that stand open behind event i
abbrev pub within : ℕ → List Extent → Event → List Event → List Extent
within i ns (Opens f p) es = extent f i ns es ∷ ns
within i ns Closes es = outside ns
within i ns e es = ns

-- the declarations up to it
abbrev pub noting : ℕ → List Extent → List Noted → Event → List Noted
noting i (n ∷ ns) ks (Declares h s t p) = noted s t i n ∷ ks
noting i ns ks e = ks

-- the declarations that clash with one before them
abbrev pub late : ℕ → List Extent → List Noted → List Event → List ℕ
late i ns ks [] = []
late i ns ks (e ∷ es) = cond (is_late_at i ns ks e) (i ∷ []) [] ++ late (suc i) (within i ns e es) (noting i ns ks e) es

abbrev pub is_among : Text → List Text → Bool
is_among t [] = false
is_among t (u ∷ us) = same t u || is_among t us

-- whether a name is exported that was exported before
abbrev pub is_again : List Text → Event → Bool
is_again us (Exports t a) = is_among t us
is_again us e = false

abbrev pub exporting : List Text → Event → List Text
exporting us (Exports t a) = t ∷ us
exporting us e = us

abbrev pub again : ℕ → List Text → List Event → List ℕ
again i us [] = []
again i us (e ∷ es) = cond (is_again us e) (i ∷ []) [] ++ again (suc i) (exporting us e) es

-- names that are exported, and not among these declarations
abbrev pub is_unknown : List Declaration → Event → Bool
is_unknown ds (Wants t a) = not (is_declared t ds)
is_unknown ds e = false

abbrev pub unknown : ℕ → List Declaration → List Event → List ℕ
unknown i ds [] = []
unknown i ds (e ∷ es) = cond (is_unknown ds e) (i ∷ []) [] ++ unknown (suc i) ds es

-- the direct calls of `eval`
abbrev pub calls : ℕ → List Event → List ℕ
calls i [] = []
calls i (Evals p ∷ es) = i ∷ calls (suc i) es
calls i (e ∷ es) = calls (suc i) es

abbrev pub first : List ℕ → Option ℕ
first [] = None
first (i ∷ is) = Some i

abbrev pub earlier : Option ℕ → Option ℕ → Option ℕ
earlier None o = o
earlier (Some i) None = Some i
earlier (Some i) (Some j) = Some (cond (nat_lt j i) j i)

-- the first early error on what a module exports
abbrev pub first_amiss : List Event → Option ℕ
first_amiss (Opens OfModule p ∷ es) = earlier (first (again 1 [] es)) (first (unknown 1 (all_of (collected [] es)) es))
first_amiss es = None

-- the first early error on names, but for calls
abbrev pub first_faulty : List Event → Option ℕ
first_faulty es = earlier (first (late 0 [] [] es)) (first_amiss es)

-- all of them, by their numbers: those of one kind in order
abbrev pub faulty_exports : List Event → List ℕ
faulty_exports (Opens OfModule p ∷ es) = again 1 [] es ++ unknown 1 (all_of (collected [] es)) es
faulty_exports es = []

abbrev pub faulty : List Event → List ℕ
faulty es = late 0 [] [] es ++ faulty_exports es

-- the place of a declaration or of an export
abbrev pub placed : Event → Place
placed (Declares h s t p) = AtName p
placed (Exports t a) = a
placed (Wants t a) = a
placed e = AtName []

abbrev pub placed_first : List Event → Place
placed_first [] = AtName []
placed_first (e ∷ es) = placed e

-- that of the event with a number
abbrev pub placed_at : List Event → ℕ → Place
placed_at es i = placed_first (drop i es)

-- where `eval` is called
abbrev pub called : Event → Path
called (Evals p) = p
called e = []

abbrev pub called_first : List Event → Path
called_first [] = []
called_first (e ∷ es) = called e

abbrev pub called_at : List Event → ℕ → Path
called_at es i = called_first (drop i es)
