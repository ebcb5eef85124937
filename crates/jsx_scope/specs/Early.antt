-- What is said of the names of a program that a text reads as: whether it has an early error on names, and where the first is in bytes.
use Rattle.std.specs.Prelude.{◌≡◌, ℕ, Result, Ok, Err, ⊤}
use Rattle.jsx_base.specs.Token.{Text}
use Rattle.jsx_tree.specs.declared.text.Goal.{Goal}
use Rattle.jsx_tree.specs.declared.program.Program.{Program}
use Rattle.jsx_tree.specs.Kinds.{Tree}
use Rattle.jsx_tree.specs.Normal.{without_parentheses}
use Rattle.jsx_tree.specs.Program.{Reads}
use Rattle.jsx_tree.specs.Spans.{Placed, IsTold, placed_in}
use Rattle.jsx_tree.specs.Told.{told}
use Rattle.jsx_tree.specs.ViewProgram.{view}
use Rattle.jsx_names.specs.declared.event.EarlyError.{EarlyError}
use Rattle.jsx_names.specs.declared.event.EarlyError.TheVariants as event
use Rattle.jsx_heard.specs.Early.{ClashesAt, CallsAt, IsClean}
use Rattle.jsx_scope.specs.declared.early_errors.ScopeError.{ScopeError}
use Rattle.jsx_scope.specs.declared.early_errors.ScopeError.TheVariants.{Scope, DirectEval, Memory}

abbrev pub scope_error : EarlyError → ScopeError
scope_error (event.Scope at) = Scope at
scope_error (event.DirectEval at) = DirectEval at

-- the text, whose first byte has the place `from`, reads as the tree; the program is this tree without its parentheses, and tells where its texts and its nodes stand
pub record IsReadAs (goal : Goal) (from : ℕ) (text : Text) (written : Tree) (program : Program) : Type 0 where
  pub reads : Reads goal text written
  pub bare : view program ≡ without_parentheses written
  pub placed : IsTold (told program) (placed_in from text written)

-- what an answer says of a tree and its places; want of memory says nothing
abbrev pub Says : Tree → Placed → Result Unit ScopeError → Type 0
Says t q (Ok u) = IsClean t
Says t q (Err (Scope at)) = ClashesAt t q at.0
Says t q (Err (DirectEval at)) = CallsAt t q at.0
Says t q (Err Memory) = ⊤
