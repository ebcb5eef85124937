-- What names refer to, of the numbers of their scopes.
use Rattle.std.specs.Prelude.{ℕ, List, [], ◌∷◌, ◌++◌, Bool, false, cond, drop, Option, Some, None}
use Rattle.jsx_base.specs.Token.{Text}
use Rattle.jsx_tree.specs.Nonterminals.{is_ident}
use Rattle.jsx_tree.specs.Scopes.{Path, Binding, Bound, Free}
use Rattle.jsx_names.specs.Events.{Event, Opens, Declares, Refers}
use Rattle.jsx_names.specs.Answers.{Answer, is_own}

-- a name, and where it stands
pub record Spoken : Type 0 where
  pub name : Text
  pub at : Path

abbrev pub spoken : Text → Path → Spoken
spoken t p = record { name = t; at = p }

-- the names among events, in order
abbrev pub names_in : List Event → List Spoken
names_in [] = []
names_in (Declares h s t p ∷ es) = cond (is_ident t) (spoken t p ∷ []) [] ++ names_in es
names_in (Refers t p ∷ es) = spoken t p ∷ names_in es
names_in (e ∷ es) = names_in es

-- whose scope begins with an event, and whether it holds the own name of that
abbrev pub node_of : Event → Path
node_of (Opens f p) = p
node_of e = []

abbrev pub owns : Event → Bool
owns (Opens f p) = is_own f
owns e = false

abbrev pub node_first : List Event → Path
node_first [] = []
node_first (e ∷ es) = node_of e

abbrev pub owns_first : List Event → Bool
owns_first [] = false
owns_first (e ∷ es) = owns e

abbrev pub node_at : List Event → ℕ → Path
node_at es i = node_first (drop i es)

abbrev pub owns_at : List Event → ℕ → Bool
owns_at es i = owns_first (drop i es)

-- the binding of a name in the scope with a number, of the nodes and the flags of scopes by number
abbrev pub binding_by : (ℕ → Path) → (ℕ → Bool) → Text → Option ℕ → Binding
binding_by P O t None = Free t
binding_by P O t (Some i) = Bound (P i) (O i) t

abbrev pub answer_by : (ℕ → Path) → (ℕ → Bool) → Spoken → Option ℕ → Answer
answer_by P O n o = record { at = n.at; binding = binding_by P O n.name o }

abbrev pub answers_by : (ℕ → Path) → (ℕ → Bool) → List Spoken → List (Option ℕ) → List Answer
answers_by P O [] os = []
answers_by P O (n ∷ ns) [] = []
answers_by P O (n ∷ ns) (o ∷ os) = answer_by P O n o ∷ answers_by P O ns os
