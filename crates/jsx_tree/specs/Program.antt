-- A whole text as a program (ECMA-262 section 16).
use Rattle.std.specs.Prelude.{Bool, true, false, IsTrue}
use Rattle.jsx_base.specs.Token.{Text}
use Rattle.jsx_tree.specs.declared.text.Goal.{Goal}
use Rattle.jsx_tree.specs.declared.text.Goal.TheVariants as goals
use Rattle.jsx_tree.specs.Kinds.{Module, Script, program, Tree, node}
use Rattle.jsx_tree.specs.Reading.{reads}
use Rattle.jsx_tree.specs.StaticRules.{outside, legal}

abbrev pub is_goal : Goal → Tree → Bool
is_goal goals.Module (node (program Module) cs) = true
is_goal goals.Script (node (program Script) cs) = true
is_goal g t = false

-- the text reads as the tree, under the goal
pub record Reads (goal : Goal) (text : Text) (t : Tree) : Type 0 where
  pub of_goal : IsTrue (is_goal goal t)
  -- the tree has the form that the grammar asks, and its signs read the whole text
  pub read : IsTrue (reads text t)
  pub is_legal : IsTrue (legal outside t)
