-- The promise of the compiler: what the code is, given the source.
use Rattle.std.specs.Prelude.{ℕ, List, [], IsFalse}
use Rattle.std.specs.Str.{IsUtf8, chars}
use Rattle.jsx_tree.specs.declared.text.Goal.{Goal}
use Rattle.jsx_tree.specs.Kinds.{Tree}
use Rattle.jsx_tree.specs.Normal.{nf, without_parentheses}
use Rattle.jsx_tree.specs.Program.{Reads}
use Rattle.jsx_token.specs.Stage.{ReadsSoFar}
use Rattle.jsx_heard.specs.Early.{IsClean}
use Rattle.react_compile.specs.Element.{default_settings}
use Rattle.react_compile.specs.StandsFor.{StandsFor, has_jsx}

-- the bytes are a text that reads as the tree
pub record IsSource (goal : Goal) (bytes : List ℕ) (tree : Tree) : Type 0 where
  pub utf8 : IsUtf8 bytes
  pub reads : ReadsSoFar goal (chars bytes) tree

-- the bytes are a text that reads, under the same goal, as one tree without JSX, which stands for the source's tree
pub record IsCodeFor (goal : Goal) (tree : Tree) (bytes : List ℕ) : Type 0 where
  pub utf8 : IsUtf8 bytes
  pub printed : Tree
  pub reads : Reads goal (chars bytes) printed
  pub jsx_free : IsFalse (has_jsx printed)
  pub stands_for : StandsFor default_settings (nf tree) (nf printed) []

-- the source is a text that reads as a tree without early errors on names, parentheses aside, and the code is code for it
pub record Compiles (goal : Goal) (source code : List ℕ) : Type 0 where
  pub tree : Tree
  pub is_source : IsSource goal source tree
  pub names : IsClean (without_parentheses tree)
  pub is_code : IsCodeFor goal tree code
