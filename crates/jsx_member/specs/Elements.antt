-- What stands among arguments and in an array: expressions and spreads, and in an array holes too (ECMA-262 sections 13.2.4 and 13.3.8).
use Rattle.std.specs.Prelude.{◌≡◌, false}
use Rattle.jsx_tree.specs.Kinds.{Tree}
use Rattle.jsx_tree.specs.Nonterminals.{Nonterminal}
use Rattle.jsx_tree.specs.Reading.{Place}
use Rattle.jsx_tree.specs.StaticRules.{Surroundings}
use Rattle.jsx_tree.specs.Language.{Whole}
use Rattle.jsx_operand.specs.SoFar.{so_far}
use Rattle.jsx_function.specs.Elements.{is_hole}

-- the text is this one, and of all that may stand there but a hole no other
pub record OnlyItem (v : Surroundings) (c : Nonterminal) (x : Place) (t : Tree) (y : Place) : Type 0 where
  pub reads : Whole so_far v false c x t y
  pub filled : is_hole t ≡ false
  pub alone : (u : Tree) (z : Place) → is_hole u ≡ false → Whole so_far v false c x u z → (t ≡ u) × (y ≡ z)
