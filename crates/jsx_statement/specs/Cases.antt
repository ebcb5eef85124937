-- The cases of a `switch`, up to its brace: a case ends with a list of statements, so it ends where the next case or the brace stands.
use Rattle.std.specs.Prelude.{◌≡◌, List, [], ◌∷◌, Bool, true, false}
use Rattle.jsx_tree.specs.Signs.{Outdent}
use Rattle.jsx_tree.specs.Kinds.{Default, statement, Tree, node, list, Forest, none, part}
use Rattle.jsx_tree.specs.Nonterminals as grammar
use Rattle.jsx_tree.specs.Grammar.{Lines, Many, Production, pun}
use Rattle.jsx_tree.specs.Grammar as symbol
use Rattle.jsx_tree.specs.Reading.{Place, forth}
use Rattle.jsx_tree.specs.StaticRules.{Surroundings, at_most, is_default}
use Rattle.jsx_tree.specs.Walk.{Piece, piece, pieces, one, Past, Walk, steady}
use Rattle.jsx_tree.specs.Language.{Whole}
use Rattle.jsx_tree.specs.Faults.{Fault, Shallow, deepest}
use Rattle.jsx_operand.specs.SoFar.{so_far}
use Rattle.jsx_declaration.specs.Heads.{Front}
use Rattle.jsx_statement.specs.Inners.{is_inner_list}

-- the cases, and the brace behind them
abbrev pub cases_symbols : Production
cases_symbols = Many Lines grammar.CaseClause ∷ symbol.Fixed Outdent ∷ symbol.Fixed (pun "}") ∷ []

abbrev pub cases_row : List Piece
cases_row = pieces [] cases_symbols

-- the rest of one case, and the cases behind it
abbrev pub body_row : List Piece
body_row = piece [] (Many Lines grammar.Stmt) ∷ cases_row

-- the statements of a case, which end before such a token; a function stands among them in strict code alone
pub record IsBody (v : Surroundings) (x : Place) (t : Tree) (y : Place) : Type 0 where
  pub stands : Past (Whole so_far) v (Many Lines grammar.Stmt) x (one t) y
  pub front : Front v body_row cases_row x t y
  pub inner : is_inner_list v t ≡ true

-- with a case in front
abbrev pub with_case : Tree → Forest → Forest
with_case t (part (list us) vs) = part (list (part t us)) vs
with_case t ts = ts

pub record MoreCases (v : Surroundings) (y : Place) (t : Tree) (us : Forest) (w : Place) : Type 0 where
  pub parts : Forest
  pub is : with_case t parts ≡ us
  pub walk : Walk (Whole so_far) (steady v) cases_row y parts w

-- a case stands there and ends before such a token: what is read of cases from its begin is it and what is read from its end
pub record IsCase (v : Surroundings) (x : Place) (t : Tree) (y : Place) : Type 0 where
  pub whole : Whole so_far v false grammar.CaseClause x t y
  pub to : (ts : Forest) (w : Place) → Walk (Whole so_far) (steady v) cases_row y ts w → Walk (Whole so_far) (steady v) cases_row x (with_case t ts) w
  pub from : (us : Forest) (w : Place) → Walk (Whole so_far) (steady v) cases_row x us w → MoreCases v y t us w

-- the same behind `default`
abbrev pub default_row : List Piece
default_row = piece [] (symbol.Fixed (pun ":")) ∷ body_row

pub record IsDefault (v : Surroundings) (x : Place) (t : Tree) (y : Place) : Type 0 where
  pub body : Tree
  pub begin : Place
  pub is : t ≡ node (statement Default) (part body none)
  pub colon : begin ≡ forth (pun ":") x
  pub reads : IsBody v begin body y

-- no case stands there with others and the brace behind it
pub record NoCase (v : Surroundings) (x : Place) (e : Fault) : Type 0 where
  pub no : (t : Tree) (us vs : Forest) (w : Place) → Walk (Whole so_far) (steady v) cases_row x (part (list (part t us)) vs) w → Shallow e (deepest (part (list (part t us)) vs)) → ⊥

abbrev pub one_default : Forest → Bool
one_default (part (list ts) us) = at_most 1 is_default ts
one_default ts = true

-- no cases stand there with the brace behind them, of which at most one is `default`
pub record NoCases (v : Surroundings) (x : Place) (e : Fault) : Type 0 where
  pub no : (ts : Forest) (w : Place) → Walk (Whole so_far) (steady v) cases_row x ts w → one_default ts ≡ true → Shallow e (deepest ts) → ⊥
