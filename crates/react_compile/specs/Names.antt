-- Early errors on names of a source, and where the first is in bytes (ECMA-262 sections 14.2.1, 14.7, 14.12.1, 14.15.1, 15.1.1, 15.2.1, 16.1.1 and 16.2.1; direct calls of `eval`, section 13.3.6.1).
use Rattle.std.specs.Prelude.{ℕ, ◌≤◌, List}
use Rattle.std.specs.Str.{chars}
use Rattle.jsx_tree.specs.declared.text.Goal.{Goal}
use Rattle.jsx_tree.specs.Kinds.{Tree}
use Rattle.jsx_tree.specs.Depth.{depth}
use Rattle.jsx_tree.specs.Normal.{without_parentheses}
use Rattle.jsx_tree.specs.Spans.{placed_in}
use Rattle.jsx_heard.specs.Early.{ClashesAt, CallsAt, IsClean}
use Rattle.react_compile.specs.Compiles.{IsSource}

-- the bytes are a text that reads as a tree within so many levels, and the first early error on its names, but for calls, is behind so many bytes
pub record HasClash (goal : Goal) (bytes : List ℕ) (levels at : ℕ) : Type 0 where
  pub tree : Tree
  pub is_source : IsSource goal bytes tree
  pub shallow : depth tree ≤ levels
  pub clash : ClashesAt (without_parentheses tree) (placed_in 0 (chars bytes) tree) at

-- the same of a tree without such an error, and of the first direct call of `eval`
pub record HasDirectEval (goal : Goal) (bytes : List ℕ) (levels at : ℕ) : Type 0 where
  pub tree : Tree
  pub is_source : IsSource goal bytes tree
  pub shallow : depth tree ≤ levels
  pub call : CallsAt (without_parentheses tree) (placed_in 0 (chars bytes) tree) at
