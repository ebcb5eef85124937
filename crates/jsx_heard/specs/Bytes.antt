-- Where an event of a tree is, in bytes, by its path: that of a name or of a `default` among the places of the tree's parts.
use Rattle.std.specs.Prelude.{ℕ, zero, suc, List, [], ◌∷◌}
use Rattle.jsx_tree.specs.Scopes.{Path}
use Rattle.jsx_tree.specs.Clashes.{Place, AtName, AtDefault}
use Rattle.jsx_tree.specs.Spans.{Placed, leaf_at, node_at, default_at, list_at, Places, end, and}
use Rattle.jsx_names.specs.Events.{Event, Declares, Refers, Exports, Wants, Evals}
use Rattle.jsx_heard.specs.Said.{Met}

abbrev mutual
  -- the token at a path
  pub byte_at : Path → Placed → ℕ
  byte_at [] (leaf_at at e k t) = at
  byte_at [] (default_at at e k ps) = at
  byte_at [] p = 0
  byte_at (i ∷ is) (leaf_at at e k t) = 0
  byte_at (i ∷ is) (node_at e k ps) = byte_among i is ps
  byte_at (i ∷ is) (default_at at e k ps) = byte_among i is ps
  byte_at (i ∷ is) (list_at ps) = byte_among i is ps

  pub byte_among : ℕ → Path → Places → ℕ
  byte_among i is end = 0
  byte_among zero is (and p ps) = byte_at is p
  byte_among (suc i) is (and p ps) = byte_among i is ps

-- a name, or the `default` of an export
abbrev pub byte_of : Place → Placed → ℕ
byte_of (AtName p) q = byte_at p q
byte_of (AtDefault p) q = byte_at p q

-- an event; what begins or ends a scope is nowhere
abbrev pub byte_in : Placed → Event → ℕ
byte_in q (Declares h s t p) = byte_at p q
byte_in q (Refers t p) = byte_at p q
byte_in q (Exports t a) = byte_of a q
byte_in q (Wants t a) = byte_of a q
byte_in q (Evals p) = byte_at p q
byte_in q e = 0

abbrev pub bytes_in : Placed → List Event → List ℕ
bytes_in q [] = []
bytes_in q (e ∷ es) = byte_in q e ∷ bytes_in q es

-- of what was met, the events and the bytes
abbrev pub events_of : List Met → List Event
events_of [] = []
events_of (m ∷ ms) = m.event ∷ events_of ms

abbrev pub bytes_of : List Met → List ℕ
bytes_of [] = []
bytes_of (m ∷ ms) = m.at.0 ∷ bytes_of ms
