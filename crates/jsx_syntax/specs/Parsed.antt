-- What a text is read as: the tree that is written, with its parentheses off (ECMA-262 section 13.2.9).
use Rattle.std.specs.Prelude.{◌≡◌, ◌≤◌, ℕ, ⊤}
use Rattle.jsx_base.specs.Token.{Text}
use Rattle.jsx_tree.specs.declared.program.Program.{Program}
use Rattle.jsx_tree.specs.declared.text.Goal.{Goal}
use Rattle.jsx_tree.specs.Kinds.{Tree}
use Rattle.jsx_tree.specs.Depth.{depth}
use Rattle.jsx_tree.specs.Normal.{without_parentheses}
use Rattle.jsx_tree.specs.Spans.{IsTold, placed_in}
use Rattle.jsx_tree.specs.Told.{told}
use Rattle.jsx_tree.specs.ViewProgram.{view}
use Rattle.jsx_token.specs.Stage.{ReadsSoFar}
use Rattle.jsx_operand.specs.declared.error.ParseError.{ParseError}
use Rattle.jsx_operand.specs.declared.error.ParseError.TheVariants.{Syntax, TooDeep, Memory}

-- of a text whose first byte has a place: the program is the one tree that the text reads as under the goal, without its parentheses, and the tree is within so many levels
pub record IsParsed (goal : Goal) (from : ℕ) (text : Text) (levels : ℕ) (program : Program) : Type 0 where
  -- the tree with them
  pub written : Tree
  pub reads : ReadsSoFar goal text written
  -- no other tree reads the text
  pub alone : (t : Tree) → ReadsSoFar goal text t → t ≡ written
  pub shallow : depth written ≤ levels
  pub bare : view program ≡ without_parentheses written
  -- each text is the piece of the source at its place, and each node below the module runs from its first token to its last
  pub placed : IsTold (told program) (placed_in from text written)

-- the place of an error is not before another
abbrev pub IsFrom : ℕ → ParseError → Type 0
IsFrom n (Syntax at) = n ≤ at.0
IsFrom n (TooDeep at) = n ≤ at.0
IsFrom n Memory = ⊤
