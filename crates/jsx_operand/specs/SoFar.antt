-- The language that the compiler takes so far, over the rows of the grammar.
use Rattle.std.specs.Prelude.{◌≡◌, Bool, true, ◌&&◌}
use Rattle.jsx_tree.specs.Kinds.{Tree, none}
use Rattle.jsx_tree.specs.Nonterminals.{Nonterminal}
use Rattle.jsx_tree.specs.Grammar.{InModuleCode}
use Rattle.jsx_tree.specs.Reading.{Place}
use Rattle.jsx_tree.specs.StaticRules.{Surroundings, outside, enter, rule, stands}
use Rattle.jsx_token.specs.Stage.{has_kind, in_stage}
use Rattle.jsx_tree.specs.Walk.{IsRead}
use Rattle.jsx_tree.specs.Language.{Language}
use Rattle.jsx_token.specs.Marks.{ends_so_far, row_so_far}

-- read, and in the stage
pub record Staged (v : Surroundings) (b : Bool) (c : Nonterminal) (x : Place) (t : Tree) (y : Place) : Type 0 where
  pub reads : IsRead v b c x t y
  pub staged : in_stage c t ≡ true

abbrev pub so_far : Language
so_far = record { reads = Staged; ends = ends_so_far; rows = row_so_far; keeps = λ k v ts. has_kind k && (rule k ts && stands k ts v) }

-- what the statements of a module stand in
abbrev pub in_module : Surroundings
in_module = enter none InModuleCode outside
