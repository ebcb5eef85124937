-- What a function of the parser answers.
use Rattle.std.specs.Prelude.{◌≡◌, ◌≤◌, ℕ, Bool, true, false, Result, Err, ⊤}
use Rattle.jsx_base.specs.Token.{Text}
use Rattle.jsx_tree.specs.declared.text.Goal.{Goal}
use Rattle.jsx_tree.specs.Kinds.{Tree}
use Rattle.jsx_tree.specs.Depth.{depth}
use Rattle.jsx_tree.specs.Faults.{Fault, Unread, Deep, Shallow}
use Rattle.jsx_token.specs.Stage.{ReadsSoFar}
use Rattle.jsx_operand.specs.declared.error.ParseError.{ParseError}
use Rattle.jsx_operand.specs.declared.error.ParseError.TheVariants.{Syntax, TooDeep, Memory}

-- why a function reads nothing, by its error, where so many levels are left; whether that is want of memory
abbrev pub fault_of : ℕ → ParseError → Fault
fault_of n (Syntax at) = Unread
fault_of n (TooDeep at) = Deep n
fault_of n Memory = Unread

abbrev pub is_want : ParseError → Bool
is_want Memory = true
is_want x = false

-- if the answer is an error, but for want of memory, this holds of its fault
pub record Refused {T : Type 0} (levels : ℕ) (r : Result T ParseError) (P : Fault → Type 0) : Type 0 where
  pub bars : (x : ParseError) → r ≡ Err x → is_want x ≡ false → P (fault_of levels x)

-- the same of what is no question of depth
pub record PlainRefused {T : Type 0} (r : Result T ParseError) (B : Type 0) : Type 0 where
  pub bars : (x : ParseError) → r ≡ Err x → is_want x ≡ false → B

-- no tree reads the text that the fault speaks of
pub record NoTree (goal : Goal) (text : Text) (e : Fault) : Type 0 where
  pub no : (t : Tree) → ReadsSoFar goal text t → Shallow e (depth t) → ⊥

-- the place of an error is in the text
abbrev pub IsWithin : ℕ → ParseError → Type 0
IsWithin n (Syntax at) = at.0 ≤ n
IsWithin n (TooDeep at) = at.0 ≤ n
IsWithin n Memory = ⊤
