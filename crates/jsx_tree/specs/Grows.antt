-- An expression that grows to the right, step by step.
use Rattle.std.specs.Prelude.{◌≡◌, ℕ, nat_eq, ◌||◌, cond, true, false, Bool, List, [], ◌∷◌, codes, Option, Some, None}
use Rattle.jsx_base.specs.Token.{Operator, IdentifierName, Punctuator}
use Rattle.jsx_tree.specs.Signs.{Sign, Tok}
use Rattle.jsx_tree.specs.Kinds.{BinaryOp, InOp, InstanceOf, Assign, OpAssign, PostfixUpdate, Parenthesized, ParenTarget, Kind, expression, function, Tree, leaf, node, list, Forest, none, part}
use Rattle.jsx_tree.specs.Nonterminals.{Nonterminal, number, binary}
use Rattle.jsx_tree.specs.Grammar.{Part}
use Rattle.jsx_tree.specs.Form.{admits}
use Rattle.jsx_tree.specs.Reading.{Place}
use Rattle.jsx_tree.specs.StaticRules.{Surroundings}
use Rattle.jsx_tree.specs.Walk.{Piece, piece, tail, Walk, around, steady}
use Rattle.jsx_tree.specs.Language.{Language, Whole}

-- the part with which a row begins, where that stands in what its node stands in
abbrev pub starts : List Piece → Option Nonterminal
starts (piece [] (Part c) ∷ ps) = Some c
starts ps = None

abbrev pub any_of : ℕ → List ℕ → Bool
any_of n [] = false
any_of n (m ∷ ms) = nat_eq n m || any_of n ms

-- where an expression stands, or what may stand at the left end of one: targets, names that are bound, arguments, pieces of templates, by their numbers
abbrev pub operand_numbers : List ℕ
operand_numbers = 0 ∷ 1 ∷ 2 ∷ 3 ∷ 4 ∷ 8 ∷ 18 ∷ 22 ∷ 23 ∷ 56 ∷ 57 ∷ 58 ∷ 59 ∷ []

abbrev pub is_operand : Nonterminal → Bool
is_operand c = any_of (number c) operand_numbers

-- what stands at their left is assigned to
abbrev pub takes_target : Kind → Bool
takes_target (expression Assign) = true
takes_target (expression (OpAssign o)) = true
takes_target (expression (PostfixUpdate o)) = true
takes_target k = false

-- what an expression is where it is assigned to: its parentheses are those of a target
abbrev mutual
  pub as_target : Tree → Tree
  as_target (leaf s t) = leaf s t
  as_target (node (expression Parenthesized) cs) = node (function ParenTarget) (as_targets cs)
  as_target (node k cs) = node k cs
  as_target (list ts) = list ts

  pub as_targets : Forest → Forest
  as_targets none = none
  as_targets (part t ts) = part (as_target t) ts

-- what an expression is at the left of a kind
abbrev pub seen : Kind → Tree → Tree
seen k t = cond (takes_target k) (as_target t) t

-- a target in parentheses, as no expression is before it is assigned to
abbrev pub is_aim : Tree → Bool
is_aim (node (function ParenTarget) cs) = true
is_aim t = false

-- what was read there is an expression as it is at the left of a kind
pub record Seen (L : Language) (k : Kind) (v : Surroundings) (x : Place) (t : Tree) (y : Place) : Type 0 where
  pub whole : Tree
  pub is : seen k whole ≡ t
  pub aims : is_aim whole ≡ false
  pub home : Nonterminal
  pub operand : is_operand home ≡ true
  pub reads : L.reads v false home x whole y

-- from a tree that was read from x up to a place to one that has it at its left end, step by step
pub data Onward (L : Language) (v : Surroundings) (x : Place) : Tree → Place → Tree → Place → Type 0 where
  stay : {t : Tree} {y : Place} → Onward L v x t y t y
  step : {t u : Tree} {y z w : Place} (k : Kind) (c d : Nonterminal) {ts : Forest} → starts (L.rows k) ≡ Some c → L.reads v false c x (seen k t) y → Walk L.reads (around v (part (seen k t) ts)) (tail (L.rows k)) y ts z
      → is_operand d ≡ true → L.reads v false d x (node k (part (seen k t) ts)) z → Onward L v x (node k (part (seen k t) ts)) z u w → Onward L v x t y u w

-- whatever is read from x at a place begins with this tree up to a, and goes on step by step
pub record Follows (L : Language) (v : Surroundings) (c : Nonterminal) (x : Place) (t : Tree) (a : Place) : Type 0 where
  pub home : Nonterminal
  pub operand : is_operand home ≡ true
  pub reads : L.reads v false home x t a
  pub all : (u : Tree) (z : Place) → Whole L v false c x u z → Onward L v x t a u z

-- a next step that leads to something that may stand there
pub record Steps (L : Language) (v : Surroundings) (c : Nonterminal) (x : Place) (t : Tree) (a : Place) (l : Kind) (ts : Forest) (y : Place) : Type 0 where
  pub side : Nonterminal
  pub begins : starts (L.rows l) ≡ Some side
  pub left : L.reads v false side x (seen l t) a
  pub walk : Walk L.reads (around v (part (seen l t) ts)) (tail (L.rows l)) a ts y
  pub home : Nonterminal
  pub operand : is_operand home ≡ true
  pub reads : L.reads v false home x (node l (part (seen l t) ts)) y
  pub end : Tree
  pub place : Place
  pub onward : Onward L v x (node l (part (seen l t) ts)) y end place
  pub whole : Whole L v false c x end place

-- the token at a decides that the next step is of this kind, and reads its parts to their ends along a row: its own behind the first part, or that with a guard behind
pub record Decides (L : Language) (v : Surroundings) (c : Nonterminal) (x : Place) (t : Tree) (a : Place) (k : Kind) (qs : List Piece) : Type 0 where
  pub goes : L.ends c a ≡ true → ⊥
  pub kind : (l : Kind) (ts : Forest) (y : Place) → Steps L v c x t a l ts y → l ≡ k
  pub ends : (ts : Forest) (y : Place) → Steps L v c x t a k ts y → Walk (Whole L) (steady v) qs a ts y

-- the tree that was read from x may stand at the left of a kind
pub record Joins (L : Language) (v : Surroundings) (x : Place) (t : Tree) (a : Place) (k : Kind) (qs : List Piece) : Type 0 where
  pub side : Nonterminal
  pub begins : starts (L.rows k) ≡ Some side
  pub left : L.reads v false side x (seen k t) a
  pub frees : (ts : Forest) (y : Place) → Walk (Whole L) (steady v) qs a ts y → Walk (Whole L) (around v (part (seen k t) ts)) (tail (L.rows k)) a ts y
  pub home : Nonterminal
  pub operand : is_operand home ≡ true
  pub at_home : (ts : Forest) → admits home (node k ts) ≡ true
  pub keeps : (ts : Forest) (y : Place) → Walk (Whole L) (steady v) qs a ts y → L.keeps k v (part (seen k t) ts) ≡ true

-- nothing goes on from there
pub record Stays (L : Language) (v : Surroundings) (c : Nonterminal) (x : Place) (t : Tree) (a : Place) : Type 0 where
  pub none_on : (l : Kind) (ts : Forest) (y : Place) → Steps L v c x t a l ts y → ⊥

-- the sign of an operator
abbrev pub operator_sign : BinaryOp → Sign
operator_sign InOp = Tok Operator IdentifierName (codes "in")
operator_sign InstanceOf = Tok Operator IdentifierName (codes "instanceof")
operator_sign o = Tok Operator Punctuator (binary o)
