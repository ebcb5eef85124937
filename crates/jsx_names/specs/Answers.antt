-- What a list of events says: what each scope declares, what each name refers to, which declarations clash, and the direct calls of `eval`.
use Rattle.std.specs.Prelude.{List, [], ◌∷◌, ◌++◌, Bool, true, false, cond, ◌&&◌, Option}
use Rattle.jsx_base.specs.Token.{Text}
use Rattle.jsx_tree.specs.Nonterminals.{is_ident}
use Rattle.jsx_tree.specs.Scopes.{Path, Sort, AsVar, Declaration, declaration, without_vars, parameters, Scope, Binding, lookup, is_declared}
use Rattle.jsx_tree.specs.Clashes.{Place, Export, export, later, exported_twice, first_of}
use Rattle.jsx_names.specs.Events.{Frame, OfModule, OfScript, OfFunction, OfBlock, OfCatch, OfName, Event, Opens, Enters, Closes, Declares, Refers, Exports, Wants, Evals}

-- scopes that a `var` goes through
abbrev pub is_passed : Frame → Bool
is_passed OfBlock = true
is_passed OfCatch = true
is_passed f = false

abbrev pub are_passed : List Frame → Bool
are_passed [] = true
are_passed (f ∷ fs) = is_passed f && are_passed fs

-- whether what is declared inside of these scopes is declared in the one around them
abbrev pub reaches : Sort → List Frame → Bool
reaches AsVar fs = are_passed fs
reaches s [] = true
reaches s (f ∷ fs) = false

-- a declaration, and whether it stands in the head of its scope
pub record Named : Type 0 where
  pub head : Bool
  pub is : Declaration

abbrev pub named : Bool → Sort → Text → Path → Named
named h s t p = record { head = h; is = declaration s t p }

-- what a scope declares up to its end, in order, and the `var` names that go through it; `fs` are the scopes that stand open in it
abbrev pub collected : List Frame → List Event → List Named
collected fs [] = []
collected fs (Opens f p ∷ es) = collected (f ∷ fs) es
collected [] (Closes ∷ es) = []
collected (f ∷ fs) (Closes ∷ es) = collected fs es
collected fs (Declares h s t p ∷ es) = cond (reaches s fs) (named h s t p ∷ []) [] ++ collected fs es
collected fs (e ∷ es) = collected fs es

abbrev pub all_of : List Named → List Declaration
all_of [] = []
all_of (n ∷ ns) = n.is ∷ all_of ns

abbrev pub heads_of : List Named → List Declaration
heads_of [] = []
heads_of (n ∷ ns) = cond n.head (n.is ∷ []) [] ++ heads_of ns

-- what is seen where a scope begins, and behind its head
abbrev pub at_first : Frame → List Named → List Declaration
at_first OfFunction ns = parameters (all_of ns)
at_first OfCatch ns = heads_of ns
at_first OfBlock ns = without_vars (all_of ns)
at_first f ns = all_of ns

abbrev pub at_last : Frame → List Named → List Declaration
at_last OfCatch ns = without_vars (all_of ns)
at_last OfBlock ns = without_vars (all_of ns)
at_last f ns = all_of ns

abbrev pub is_own : Frame → Bool
is_own OfName = true
is_own f = false

-- a scope that stands open: what is seen of it now, and what will be behind its head
pub record Standing : Type 0 where
  pub scope : Scope
  pub rest : List Declaration

abbrev pub opened : Frame → Path → List Named → Standing
opened f p ns = record { scope = record { node' = p; own = is_own f; names = at_first f ns }; rest = at_last f ns }

abbrev pub entered : List Standing → List Standing
entered [] = []
entered (s ∷ ss) = record { scope = record { node' = s.scope.node'; own = s.scope.own; names = s.rest }; rest = s.rest } ∷ ss

abbrev pub left : List Standing → List Standing
left [] = []
left (s ∷ ss) = ss

abbrev pub scopes : List Standing → List Scope
scopes [] = []
scopes (s ∷ ss) = s.scope ∷ scopes ss

-- a name, and what it refers to
pub record Answer : Type 0 where
  pub at : Path
  pub binding : Binding

abbrev pub answer : List Scope → Text → Path → Answer
answer ss t p = record { at = p; binding = lookup t ss }

-- what each name refers to, in order. What is declared under a reserved word is no name.
abbrev pub answers : List Standing → List Event → List Answer
answers ss [] = []
answers ss (Opens f p ∷ es) = answers (opened f p (collected [] es) ∷ ss) es
answers ss (Enters ∷ es) = answers (entered ss) es
answers ss (Closes ∷ es) = answers (left ss) es
answers ss (Declares h s t p ∷ es) = cond (is_ident t) (answer (scopes ss) t p ∷ []) [] ++ answers ss es
answers ss (Refers t p ∷ es) = answer (scopes ss) t p ∷ answers ss es
answers ss (e ∷ es) = answers ss es

-- functions and scripts, in whose own lists functions, `var` names and parameters may meet
abbrev pub is_wide : Frame → Bool
is_wide OfScript = true
is_wide OfFunction = true
is_wide f = false

-- two declarations of one scope that clash: the later ones
abbrev pub clashing : List Event → List Place
clashing [] = []
clashing (Opens f p ∷ es) = later (is_wide f) [] (all_of (collected [] es)) ++ clashing es
clashing (e ∷ es) = clashing es

abbrev pub exported_in : List Event → List Export
exported_in [] = []
exported_in (Exports t a ∷ es) = export t a ∷ exported_in es
exported_in (e ∷ es) = exported_in es

-- the names that a module exports and doesn't declare
abbrev pub missing : List Declaration → List Event → List Place
missing ds [] = []
missing ds (Wants t a ∷ es) = cond (is_declared t ds) [] (a ∷ []) ++ missing ds es
missing ds (e ∷ es) = missing ds es

-- of a module
abbrev pub amiss : List Event → List Place
amiss (Opens OfModule p ∷ es) = exported_twice [] (exported_in es) ++ missing (all_of (collected [] es)) es
amiss es = []

abbrev pub faults : List Event → List Place
faults es = amiss es ++ clashing es

abbrev pub first_fault : List Event → Option Place
first_fault es = first_of (faults es)

abbrev pub evals_in : List Event → List Path
evals_in [] = []
evals_in (Evals p ∷ es) = p ∷ evals_in es
evals_in (e ∷ es) = evals_in es
