-- What a parser knows of an expression that it has read so far.
use Rattle.std.specs.Prelude.{◌≡◌, ℕ, List, Bool, true, false, nat_le, cond, not, ◌&&◌}
use Rattle.jsx_base.specs.Token.{IdentifierName}
use Rattle.jsx_tree.specs.Kinds.{Member, Index, SuperMember, SuperIndex, Parenthesized, Kind, expression, Tree, leaf, node, Forest, none, part, UnaryOp, Delete}
use Rattle.jsx_tree.specs.Nonterminals.{is_bound}
use Rattle.jsx_tree.specs.Form.{calls}
use Rattle.jsx_tree.specs.Grammar.{Part}
use Rattle.jsx_tree.specs.Reading.{Place}
use Rattle.jsx_tree.specs.StaticRules.{Surroundings, is_name}
use Rattle.jsx_tree.specs.Answers.{Moves, Barred}
use Rattle.jsx_tree.specs.Grows.{Follows, takes_target, seen}
use Rattle.jsx_tree.specs.Language.{Whole}
use Rattle.jsx_tree.specs.Walk.{Piece, Walk, steady, tail}
use Rattle.jsx_tree.specs.Faults.{Fault, Unread, Shallow, deepest}
use Rattle.jsx_operand.specs.SoFar.{Staged, so_far}
use Rattle.jsx_token.specs.Marks.{row_so_far}
use Rattle.jsx_token.specs.Growths.{OnLine, Rung, rung, callee, fits_by, is_chain, is_rung, level_of_kind, mark, past_line, seat, settled}
use Rattle.jsx_operand.specs.Links.{NoLink}

-- what stands behind the mark
abbrev pub behind : Kind → List Piece
behind k = tail (past_line (tail (row_so_far k)))

abbrev pub level : Tree → ℕ
level (node k ts) = level_of_kind k
level t = 18

abbrev pub is_target_kind : Kind → Bool
is_target_kind (expression Member) = true
is_target_kind (expression Index) = true
is_target_kind (expression SuperMember) = true
is_target_kind (expression SuperIndex) = true
is_target_kind k = false

-- a name that may be bound, or a member, in parentheses or not
abbrev pub is_target : Tree → Bool
is_target (leaf IdentifierName t) = is_bound t
is_target (node (expression Parenthesized) (part t none)) = is_target t
is_target (node k ts) = is_target_kind k
is_target t = false

abbrev pub fits : Kind → Tree → Bool
fits k t = cond (takes_target k) (is_target t) (fits_by k (level t))

abbrev pub is_call : Tree → Bool
is_call (node k ts) = calls k
is_call t = false

-- whether a tree that begins with no other expression may stand there
abbrev pub rises : Rung → Tree → Bool
rises (rung n) t = nat_le n (level t)
rises callee t = nat_le 17 (level t) && not (is_call t)

-- a name alone isn't deleted
abbrev pub deletes_name : UnaryOp → Tree → Bool
deletes_name Delete t = is_name t
deletes_name o t = false

-- where a kind may end that goes on with another: behind a chain comes no link
pub record Ended (k : Kind) (y : Place) : Type 0 where
  pub unlinked : is_chain k ≡ true → settled y ≡ true → NoLink y

-- behind its mark, the text goes on with the tree by this kind, in this way alone up to where that may end
pub record Grown (v : Surroundings) (k : Kind) (t : Tree) (b : Place) (w : Tree) (y : Place) : Type 0 where
  pub parts : Forest
  pub is : w ≡ node k (part (seen k t) parts)
  pub walk : (a : Place) → OnLine k a → Moves (mark k) a b → Walk (Whole so_far) (steady v) (tail (row_so_far k)) a parts y
  pub alone : (a : Place) → OnLine k a → Moves (mark k) a b → (us : Forest) (z : Place) → Walk (Whole so_far) (steady v) (tail (row_so_far k)) a us z → Ended k z → (parts ≡ us) × (y ≡ z)

-- in none
pub record NotGrown (v : Surroundings) (k : Kind) (b : Place) (e : Fault) : Type 0 where
  pub no : (a : Place) → OnLine k a → Moves (mark k) a b → (us : Forest) (z : Place) → Walk (Whole so_far) (steady v) (tail (row_so_far k)) a us z → Ended k z → Shallow e (deepest us) → ⊥

-- ---- what a parser knows of an expression that it has read so far

-- whatever is read there begins with this tree, which may stand there, and goes on from where a token ended
pub record Climbs (v : Surroundings) (r : Rung) (x : Place) (t : Tree) (a : Place) : Type 0 where
  pub follows : Follows so_far v (seat r) x t a
  pub reads : Staged v false (seat r) x t a
  pub ended : settled a ≡ true

-- so wherever the tree may stand, and elsewhere nothing is read; nowhere does anything stand there
pub record Begins (v : Surroundings) (x : Place) (t : Tree) (a : Place) : Type 0 where
  pub on : (r : Rung) → is_rung r ≡ true → rises r t ≡ true → Climbs v r x t a
  pub low : (r : Rung) → is_rung r ≡ true → rises r t ≡ false → Barred so_far v (Part (seat r)) x Unread
  pub ended : settled a ≡ true

pub record NoneBegins (v : Surroundings) (x : Place) (e : Fault) : Type 0 where
  pub on : (r : Rung) → is_rung r ≡ true → Barred so_far v (Part (seat r)) x e
