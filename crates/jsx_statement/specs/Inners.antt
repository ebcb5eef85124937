-- The statements of a block and of a case, among which a function stands in strict code alone (ECMA-262 sections 14.2 and 14.12).
use Rattle.std.specs.Prelude.{◌≡◌, ℕ, List, Bool, true, false, not, ◌||◌}
use Rattle.jsx_tree.specs.Kinds.{Tree, Forest, none, part}
use Rattle.jsx_tree.specs.Nonterminals.{Stmt}
use Rattle.jsx_tree.specs.Reading.{Place}
use Rattle.jsx_tree.specs.StaticRules.{Surroundings, at_most, is_function, list_rule}
use Rattle.jsx_tree.specs.Walk.{Piece, Walk, steady}
use Rattle.jsx_tree.specs.Language.{Whole}
use Rattle.jsx_tree.specs.Faults.{Fault, Shallow, part_depth}
use Rattle.jsx_operand.specs.SoFar.{so_far}

-- whether the statement may stand there; all of them; all of a list
abbrev pub is_inner : Surroundings → Tree → Bool
is_inner v t = v.strict || not (is_function t)

abbrev pub are_inner : Surroundings → Forest → Bool
are_inner v ts = v.strict || at_most 0 is_function ts

abbrev pub is_inner_list : Surroundings → Tree → Bool
is_inner_list v t = v.strict || list_rule (at_most 0 is_function) t

-- no such statement stands there
pub record NoInner (v : Surroundings) (x : Place) (e : Fault) : Type 0 where
  pub no : (t : Tree) (z : Place) → Whole so_far v false Stmt x t z → is_inner v t ≡ true → Shallow e (part_depth t) → ⊥

-- how deep the first of some trees is
abbrev pub first_depth : Forest → ℕ
first_depth none = 0
first_depth (part t ts) = part_depth t

-- the same of a row that begins with a list of them, also behind a sign: what stands behind the list may be as deep as it likes
abbrev pub first_inner : Surroundings → Forest → Bool
first_inner v (part t ts) = is_inner_list v t
first_inner v ts = true

pub record NoInners (v : Surroundings) (ps : List Piece) (x : Place) (e : Fault) : Type 0 where
  pub no : (ts : Forest) (y : Place) → Walk (Whole so_far) (steady v) ps x ts y → first_inner v ts ≡ true → Shallow e (first_depth ts) → ⊥
