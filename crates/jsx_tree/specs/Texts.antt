-- A whole text, as a walk along the row of its goal.
use Rattle.std.specs.Prelude.{◌≡◌, [], IsTrue}
use Rattle.jsx_base.specs.Token.{Text}
use Rattle.jsx_tree.specs.declared.text.Goal.{Goal}
use Rattle.jsx_tree.specs.declared.text.Goal.TheVariants as goals
use Rattle.jsx_tree.specs.Signs.{AfterExpr}
use Rattle.jsx_tree.specs.Kinds.{Module, Script, Kind, program, Tree, Forest, node}
use Rattle.jsx_tree.specs.Reading.{Place, At, ended_at}
use Rattle.jsx_tree.specs.StaticRules.{outside}
use Rattle.jsx_tree.specs.Walk.{Relation, IsNode}
use Rattle.std.specs.Prelude.{false}

abbrev pub goal_kind : Goal → Kind
goal_kind goals.Module = program Module
goal_kind goals.Script = program Script

abbrev pub start : Text → Place
start text = At [] AfterExpr text

-- the text is a node of the goal's kind, from its begin to its end
pub record ReadsWhole (R : Relation) (goal : Goal) (text : Text) (t : Tree) : Type 0 where
  pub parts : Forest
  pub end : Place
  pub is : t ≡ node (goal_kind goal) parts
  pub node : IsNode R outside false (goal_kind goal) (start text) parts end
  pub ended : IsTrue (ended_at end)
