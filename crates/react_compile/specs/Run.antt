-- What a run leaves: what it took of its source, and what its sinks gained.
use Rattle.std.specs.Prelude.{◌≡◌, ◌⊎◌, ℕ, ◌+◌, ◌<◌, ◌≤◌, List, [], Option, Some, IfSome, length}
use Rattle.jsx_base.specs.Faults.{Rose}
use Rattle.jsx_base.specs.Source.{Gives}
use Rattle.jsx_base.specs.Sink.{Gains, GainsPrefix}
use Rattle.jsx_tree.specs.Kinds.{Tree}
use Rattle.jsx_tree.specs.Depth.{depth}
use Rattle.jsx_tree.specs.declared.text.Goal.TheVariants as goals
use Rattle.jsx_tree.specs.Normal.{without_parentheses}
use Rattle.jsx_heard.specs.Early.{IsClean}
use Rattle.react_compile.specs.Compiles.{IsSource, Compiles}
use Rattle.react_compile.specs.Lines.{SaysWhy, max_depth, bad_words, read_fault, out_of_memory, input_too_big}

-- the greatest number of bytes that a source may have
abbrev pub max_source : ℕ
max_source = 16777216

-- how many bytes are asked for in one read
abbrev pub read_size : ℕ
read_size = 65536

-- nothing is left of what a source tells
abbrev pub IsAtEnd : Option (List ℕ) → Type 0
IsAtEnd left = IfSome left (λ bytes. bytes ≡ [])

-- the source was taken to its end
pub record TakesAll (left rest : Option (List ℕ)) (bytes : List ℕ) : Type 0 where
  pub gives : Gives left rest bytes
  pub to_end : IsAtEnd rest

-- the source gave at most so many bytes more than it may have as one read asks for
pub record TakesFew (left rest : Option (List ℕ)) : Type 0 where
  pub bytes : List ℕ
  pub gives : Gives left rest bytes
  pub few : length bytes ≤ max_source + read_size

-- more bytes than a source may have were taken
pub record TakesTooMany (left rest : Option (List ℕ)) : Type 0 where
  pub bytes : List ℕ
  pub gives : Gives left rest bytes
  pub too_many : max_source < length bytes

-- the whole source was taken, and the line says why it isn't compiled
pub record TakesNoModule (left rest : Option (List ℕ)) (line : List ℕ) : Type 0 where
  pub source : List ℕ
  pub taken : TakesAll left rest source
  pub few : length source ≤ max_source
  pub why : SaysWhy source line

-- the sink tells its bytes, and they are as they were
pub record KeepsTold (held holds : Option (List ℕ)) : Type 0 where
  pub bytes : List ℕ
  pub old : held ≡ Some bytes
  pub new : holds ≡ Some bytes

-- no tree that reads them is too deep
abbrev pub IsShallow : List ℕ → Type 0
IsShallow source = (tree : Tree) → IsSource goals.Module source tree → depth tree ≤ max_depth

-- the sink gained the code of these bytes, which aren't too deep, and nothing else
pub record GainsCode (source : List ℕ) (held holds : Option (List ℕ)) : Type 0 where
  pub code : List ℕ
  pub compiles : Compiles goals.Module source code
  pub shallow : IsShallow source
  pub gains : Gains held holds code

-- the same of a prefix of the code
pub record GainsCodePrefix (source : List ℕ) (held holds : Option (List ℕ)) : Type 0 where
  pub code : List ℕ
  pub compiles : Compiles goals.Module source code
  pub shallow : IsShallow source
  pub gains : GainsPrefix held holds code

-- the whole source was taken, and the sink gained its code and nothing else
pub record WritesCode (left rest held holds : Option (List ℕ)) : Type 0 where
  pub source : List ℕ
  pub taken : TakesAll left rest source
  pub few : length source ≤ max_source
  pub code : GainsCode source held holds

-- the same of a prefix of the code
pub record WritesPrefix (left rest held holds : Option (List ℕ)) : Type 0 where
  pub source : List ℕ
  pub taken : TakesAll left rest source
  pub few : length source ≤ max_source
  pub code : GainsCodePrefix source held holds

-- the source isn't compiled, and the second sink is told why
pub record TellsWhy (left rest held holds : Option (List ℕ)) : Type 0 where
  pub line : List ℕ
  pub cause : TakesNoModule left rest line
  pub says : Gains held holds line

-- the source has too many bytes, which the second sink is told
pub record TellsTooBig (left rest held holds : Option (List ℕ)) : Type 0 where
  pub cause : TakesTooMany left rest
  pub says : Gains held holds input_too_big

-- a line for which there is a cause, given whether there are words, what the source had and has left, and its count of faults before and after
abbrev pub HasCause : Type 0 → Option (List ℕ) → Option (List ℕ) → ℕ → ℕ → List ℕ → Type 0
HasCause are_words left rest reads_old reads_new line =
    ((line ≡ bad_words) × are_words) ⊎ (((line ≡ read_fault) × Rose reads_old reads_new) ⊎ ((line ≡ out_of_memory) ⊎
    (TakesNoModule left rest line ⊎ ((line ≡ input_too_big) × TakesTooMany left rest))))

-- a prefix of a line for which there is a cause, or nothing
pub record TellsPrefix (are_words : Type 0) (left rest : Option (List ℕ)) (reads_old reads_new : ℕ) (held holds : Option (List ℕ)) : Type 0 where
  pub line : List ℕ
  pub cause : HasCause are_words left rest reads_old reads_new line
  pub gains : GainsPrefix held holds line

-- the second sink gained the line that says why the bytes aren't compiled
pub record GainsWhy (source : List ℕ) (held holds : Option (List ℕ)) : Type 0 where
  pub line : List ℕ
  pub why : SaysWhy source line
  pub gains : Gains held holds line

-- the same of a prefix of the line
pub record GainsWhyPrefix (source : List ℕ) (held holds : Option (List ℕ)) : Type 0 where
  pub line : List ℕ
  pub why : SaysWhy source line
  pub gains : GainsPrefix held holds line

-- what a run without words is given so that it has to give code: a source that tells its bytes, few enough, which read as a tree that isn't too deep and has no early errors on names, and no fault in this call
pub record IsValid (left : Option (List ℕ)) (reads_old reads_new out_old out_new err_old err_new : ℕ) : Type 0 where
  pub bytes : List ℕ
  pub told : left ≡ Some bytes
  pub few : length bytes ≤ max_source
  pub tree : Tree
  pub is_source : IsSource goals.Module bytes tree
  pub shallow : depth tree ≤ max_depth
  pub names : IsClean (without_parentheses tree)
  pub read : Rose reads_old reads_new → ⊥
  pub out : Rose out_old out_new → ⊥
  pub err : Rose err_old err_new → ⊥
