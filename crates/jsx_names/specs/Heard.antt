-- The events of a tree without their places: what a walk over the tree meets, one after the other.
use Rattle.std.specs.Prelude.{List, [], ◌∷◌, ◌++◌, Bool, true, false, cond}
use Rattle.jsx_tree.specs.Kinds.{Script, program, Kind, Tree, leaf, node, list, Forest, none, part}
use Rattle.jsx_tree.specs.Nonterminals.{Nonterminal, WholeProgram}
use Rattle.jsx_tree.specs.Form.{Position, position, positions}
use Rattle.jsx_tree.specs.Clashes.{AtName}
use Rattle.jsx_names.specs.Events.{Event, Opens, Enters, Closes, Declares, Refers, Exports, Wants, Evals, Mode, Plain, mode, is_scope, frame, has_scope, inner, is_inner, is_behind, entering, around, of_node, of_leaf}

abbrev pub bare : Event → Event
bare (Opens f p) = Opens f []
bare Enters = Enters
bare Closes = Closes
bare (Declares h s t p) = Declares h s t []
bare (Refers t p) = Refers t []
bare (Exports t a) = Exports t (AtName [])
bare (Wants t a) = Wants t (AtName [])
bare (Evals p) = Evals []

abbrev pub bare_all : List Event → List Event
bare_all [] = []
bare_all (e ∷ es) = bare e ∷ bare_all es

abbrev mutual
  pub heard : Mode → Kind → Nonterminal → Tree → List Event
  heard m q c (leaf s t) = bare_all (of_leaf m q c [] s t)
  heard m q c (node k cs) =
      around (is_scope q k) (frame k) [] (bare_all (of_node k [] cs) ++ (heard_parts false m k (positions k) cs ++ around (has_scope k) (inner k) [] (heard_parts true m k (positions k) cs)))
  heard m q c (list ts) = heard_each m q c ts

  pub heard_parts : Bool → Mode → Kind → List Position → Forest → List Event
  heard_parts b m k [] ts = []
  heard_parts b m k (s ∷ ss) none = []
  heard_parts true m k (position f c g o a ∷ ss) (part t ts) = entering (is_behind k c) ++ (cond (is_inner k c) (heard (mode m k c) k c t) [] ++ heard_parts true m k ss ts)
  heard_parts false m k (position f c g o a ∷ ss) (part t ts) = cond (is_inner k c) [] (heard (mode m k c) k c t) ++ heard_parts false m k ss ts

  pub heard_each : Mode → Kind → Nonterminal → Forest → List Event
  heard_each m q c none = []
  heard_each m q c (part t ts) = heard m q c t ++ heard_each m q c ts

-- of a whole program
abbrev pub heard_in : Tree → List Event
heard_in t = heard Plain (program Script) WholeProgram t
