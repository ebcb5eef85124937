-- A language over the rows of the grammar: all of it, or as much as a parser takes.
use Rattle.std.specs.Prelude.{◌≡◌, List, Bool, true, false, ◌&&◌}
use Rattle.jsx_tree.specs.Kinds.{Kind, Tree, Forest}
use Rattle.jsx_tree.specs.Nonterminals.{Nonterminal}
use Rattle.jsx_tree.specs.Reading.{Place}
use Rattle.jsx_tree.specs.StaticRules.{Surroundings, rule, stands}
use Rattle.jsx_tree.specs.Stops.{stops}
use Rattle.jsx_tree.specs.Walk.{Relation, IsRead, Piece, row}

-- how a tree may stand between two places, where it has come to its end, the row of each kind, and what is asked of a node's parts together
pub record Language : Type 1 where
  pub reads : Relation
  pub ends : Nonterminal → Place → Bool
  pub rows : Kind → List Piece
  pub keeps : Kind → Surroundings → Forest → Bool

abbrev pub grammar : Language
grammar = record { reads = IsRead; ends = stops; rows = row false; keeps = λ k v ts. rule k ts && stands k ts v }

-- read to where it can't go on
pub record Whole (L : Language) (v : Surroundings) (b : Bool) (c : Nonterminal) (x : Place) (t : Tree) (y : Place) : Type 0 where
  pub reads : L.reads v b c x t y
  pub ends_there : L.ends c y ≡ true
