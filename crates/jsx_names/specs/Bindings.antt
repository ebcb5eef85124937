-- What the names among a list of events refer to, with each scope by the number of the event that begins it.
use Rattle.std.specs.Prelude.{ℕ, suc, List, [], ◌∷◌, ◌++◌, cond, Option, Some, None}
use Rattle.jsx_base.specs.Token.{Text}
use Rattle.jsx_tree.specs.Nonterminals.{is_ident}
use Rattle.jsx_tree.specs.Scopes.{Declaration, is_declared}
use Rattle.jsx_names.specs.Events.{Frame, Event, Opens, Enters, Closes, Declares, Refers}
use Rattle.jsx_names.specs.Answers.{Named, at_first, at_last, collected}

-- a scope that stands open: what is seen of it now, and what will be behind its head
pub record Shown : Type 0 where
  pub number : ℕ
  pub names : List Declaration
  pub later : List Declaration

abbrev pub shown : Frame → ℕ → List Named → Shown
shown f i ns = record { number = i; names = at_first f ns; later = at_last f ns }

abbrev pub behind_head : List Shown → List Shown
behind_head [] = []
behind_head (s ∷ ss) = record { number = s.number; names = s.later; later = s.later } ∷ ss

abbrev pub left : List Shown → List Shown
left [] = []
left (s ∷ ss) = ss

-- the innermost scope that shows a name
abbrev pub bound_to : Text → List Shown → Option ℕ
bound_to t [] = None
bound_to t (s ∷ ss) = cond (is_declared t s.names) (Some s.number) (bound_to t ss)

-- for each name from event i on, in order, the scope that it belongs to. What is declared under a reserved word is no name.
abbrev pub bindings : ℕ → List Shown → List Event → List (Option ℕ)
bindings i ss [] = []
bindings i ss (Opens f p ∷ es) = bindings (suc i) (shown f i (collected [] es) ∷ ss) es
bindings i ss (Enters ∷ es) = bindings (suc i) (behind_head ss) es
bindings i ss (Closes ∷ es) = bindings (suc i) (left ss) es
bindings i ss (Declares h s t p ∷ es) = cond (is_ident t) (bound_to t ss ∷ []) [] ++ bindings (suc i) ss es
bindings i ss (Refers t p ∷ es) = bound_to t ss ∷ bindings (suc i) ss es
bindings i ss (e ∷ es) = bindings (suc i) ss es

-- of one event, and the scopes behind event i
abbrev pub names_at : List Shown → Event → List (Option ℕ)
names_at ss (Declares h s t p) = cond (is_ident t) (bound_to t ss ∷ []) []
names_at ss (Refers t p) = bound_to t ss ∷ []
names_at ss e = []

abbrev pub within : ℕ → List Shown → Event → List Event → List Shown
within i ss (Opens f p) es = shown f i (collected [] es) ∷ ss
within i ss Enters es = behind_head ss
within i ss Closes es = left ss
within i ss e es = ss
