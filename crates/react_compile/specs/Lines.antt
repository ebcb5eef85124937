-- The lines that a run writes to its second sink.
use Rattle.std.specs.Prelude.{◌≡◌, ◌⊎◌, ℕ, ◌+◌, ◌<◌, ◌≤◌, List, ◌++◌, codes, decimal, length}
use Rattle.std.specs.Str.{IsUtf8, IsValidUpTo, chars}
use Rattle.jsx_base.specs.Lines.{front, line_of, col_of}
use Rattle.jsx_tree.specs.Kinds.{Tree}
use Rattle.jsx_tree.specs.Depth.{depth}
use Rattle.jsx_tree.specs.declared.text.Goal.TheVariants as goals
use Rattle.react_compile.specs.Compiles.{IsSource}
use Rattle.react_compile.specs.Names.{HasClash, HasDirectEval}

abbrev pub bad_words : List ℕ
bad_words = codes "error: bad words\n"

abbrev pub read_fault : List ℕ
read_fault = codes "error: read fault\n"

abbrev pub out_of_memory : List ℕ
out_of_memory = codes "error: out of memory\n"

abbrev pub input_too_big : List ℕ
input_too_big = codes "input.js: input too big\n"

-- the bytes aren't UTF-8: so many come before the first character that isn't whole
abbrev pub not_utf8 : ℕ → List ℕ
not_utf8 n = codes "input.js: not UTF-8 at byte " ++ (decimal n ++ codes "\n")

abbrev pub syntax_error : List ℕ
syntax_error = codes "syntax error"

abbrev pub too_deep : List ℕ
too_deep = codes "nested too deep"

abbrev pub name_error : List ℕ
name_error = codes "name error"

abbrev pub direct_eval : List ℕ
direct_eval = codes "direct eval"

-- what is wrong on a line, and in a column of it
abbrev pub placed_fault : List ℕ → ℕ → ℕ → List ℕ
placed_fault fault line column = codes "input.js:" ++ (decimal line ++ (codes ":" ++ (decimal column ++ (codes ": " ++ (fault ++ codes "\n")))))

-- what is wrong behind so many bytes of a source: on which line, and in which column, in characters, both from 1
abbrev pub fault_at : List ℕ → List ℕ → ℕ → List ℕ
fault_at fault source at = placed_fault fault (line_of (front (chars source) at)) (col_of (front (chars source) at) + 1)

-- how deep the tree of a source may be
abbrev pub max_depth : ℕ
max_depth = 500

-- the bytes aren't UTF-8, and the line says where
pub record SaysNotUtf8 (source line : List ℕ) : Type 0 where
  pub at : ℕ
  pub valid : IsValidUpTo source at
  pub line_is : line ≡ not_utf8 at

-- the bytes are a text that no tree reads, and the line names a place in it
pub record SaysSyntaxError (source line : List ℕ) : Type 0 where
  pub at : ℕ
  pub utf8 : IsUtf8 source
  pub no_tree : (tree : Tree) → IsSource goals.Module source tree → ⊥
  pub within : at ≤ length source
  pub line_is : line ≡ fault_at syntax_error source at

-- no tree that reads the text is as shallow as it must be, and the line names a place in it
pub record SaysTooDeep (source line : List ℕ) : Type 0 where
  pub at : ℕ
  pub utf8 : IsUtf8 source
  pub deep_tree : (tree : Tree) → IsSource goals.Module source tree → max_depth < depth tree
  pub within : at ≤ length source
  pub line_is : line ≡ fault_at too_deep source at

-- the tree has an early error on names, and the line says where the first is
pub record SaysClash (source line : List ℕ) : Type 0 where
  pub at : ℕ
  pub clash : HasClash goals.Module source max_depth at
  pub line_is : line ≡ fault_at name_error source at

-- the tree has none, but calls `eval` directly, and the line says where it first does
pub record SaysDirectEval (source line : List ℕ) : Type 0 where
  pub at : ℕ
  pub call : HasDirectEval goals.Module source max_depth at
  pub line_is : line ≡ fault_at direct_eval source at

-- the line says why the bytes aren't compiled
abbrev pub SaysWhy : List ℕ → List ℕ → Type 0
SaysWhy source line = SaysNotUtf8 source line ⊎ (SaysSyntaxError source line ⊎ (SaysTooDeep source line ⊎ (SaysClash source line ⊎ SaysDirectEval source line)))
