-- What stands among arguments and in an array: expressions and spreads, and in an array holes too (ECMA-262 sections 13.2.4 and 13.3.8).
use Rattle.std.specs.Prelude.{◌≡◌, Bool, true, false}
use Rattle.jsx_base.specs.Token.{Elision}
use Rattle.jsx_tree.specs.Kinds.{Tree, leaf}
use Rattle.jsx_tree.specs.Nonterminals.{Nonterminal}
use Rattle.jsx_tree.specs.Reading.{Place}
use Rattle.jsx_tree.specs.StaticRules.{Surroundings}
use Rattle.jsx_tree.specs.Language.{Whole}
use Rattle.jsx_tree.specs.Faults.{Fault, Shallow, part_depth}
use Rattle.jsx_operand.specs.SoFar.{so_far}

abbrev pub is_hole : Tree → Bool
is_hole (leaf Elision t) = true
is_hole t = false

-- nothing that may stand there is the text, but a hole
pub record NoItem (v : Surroundings) (c : Nonterminal) (x : Place) (e : Fault) : Type 0 where
  pub no : (u : Tree) (z : Place) → is_hole u ≡ false → Whole so_far v false c x u z → Shallow e (part_depth u) → ⊥
