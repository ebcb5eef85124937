-- The rows of statements behind what they begin with.
use Rattle.std.specs.Prelude.{◌≡◌, List, [], ◌∷◌, true, codes, Option, Some, None, Box, IsTrue, ⊤}
use Rattle.std.specs.Global.{Global}
use Rattle.jsx_tree.specs.Signs.{Space, Outdent}
use Rattle.jsx_tree.specs.Nonterminals as grammar
use Rattle.jsx_tree.specs.Grammar.{Lines, Many, Optional, Part, Production, key, pun, InLoop, Within, p, sp}
use Rattle.jsx_tree.specs.Grammar as symbol
use Rattle.jsx_tree.specs.Walk.{Piece, around, is_found, one, pieces, Walk}
use Rattle.jsx_tree.specs.declared.tree.Stmt.{Stmt}
use Rattle.jsx_tree.specs.Kinds.{Kind, Tree, Forest}
use Rattle.jsx_tree.specs.StaticRules.{Surroundings}
use Rattle.jsx_tree.specs.Reading.{Place, forth}
use Rattle.jsx_tree.specs.Language.{Whole}
use Rattle.jsx_tree.specs.Answers.{Barred, Only}
use Rattle.jsx_operand.specs.Openings.{NoParts, OnlyParts}
use Rattle.jsx_operand.specs.SoFar.{so_far}
use Rattle.jsx_operand.specs.Spans.{IsPlacedList}
use Rattle.jsx_tree.specs.Spans.{Tales}
use Rattle.jsx_token.specs.Here.{Here}
use Rattle.jsx_token.specs.Places.{Takes}
use Rattle.jsx_token.specs.Marks.{row_so_far}
use Rattle.jsx_token.specs.Headings.{Begins}
use Rattle.jsx_token.specs.declared.heading.Heading.{Heading}
use Rattle.jsx_tree.specs.Walk.{tail}
use Rattle.jsx_tree.specs.Faults.{Fault}

-- the row of a block, behind its `{`
abbrev pub block_symbols : Production
block_symbols = Many Lines grammar.Stmt ∷ symbol.Fixed Outdent ∷ symbol.Fixed (pun "}") ∷ []

-- statements up to the brace behind them, and that
pub record IsPlacedLines (ds : Tales) (ts : Forest) (x z : Here) : Type 0 where
  pub middle : Here
  pub items : IsPlacedList Lines ds ts x middle
  pub brace : Takes (pun "}") middle z

-- the row of an `if`, behind its first statement
abbrev pub alternative_symbols : Production
alternative_symbols = Optional (Space ∷ key "else" ∷ Space ∷ []) grammar.SubStmt [] (codes "else" ∷ []) ∷ []

abbrev pub alternative_row : List Piece
alternative_row = pieces [] alternative_symbols

-- the rows of `for`-`in` and `for`-`of` behind what is gone over
abbrev pub loop_symbols : Production
loop_symbols = p ")" ∷ sp ∷ Within InLoop ∷ Part grammar.SubStmt ∷ []

abbrev pub loop_row : List Piece
loop_row = pieces [] loop_symbols

-- where there is an `else`, it stands there
abbrev pub Closes : Option (Box Stmt Global) → Place → Type 0
Closes None x = ⊤
Closes (Some s) x = IsTrue (is_found (forth (key "else") x))

-- the tree is the statement that stands there, as a part of another and in a list; none stands there
pub record OnlyStatement (v : Surroundings) (x : Place) (t : Tree) (y : Place) : Type 0 where
  pub nested : Only so_far v (Part grammar.SubStmt) x (one t) y
  pub listed : Only so_far v (Part grammar.Stmt) x (one t) y

pub record NoStatement (v : Surroundings) (x : Place) (e : Fault) : Type 0 where
  pub nested : Barred so_far v (Part grammar.SubStmt) x e
  pub listed : Barred so_far v (Part grammar.Stmt) x e

-- The same of what begins with a heading, behind it: of the kinds that it begins the tree is the one node that does. A `try` can be read along its row as far as its block too, but no such parts keep its rule.
pub record OnlyHeaded (v : Surroundings) (h : Heading) (t : Tree) (x y : Place) : Type 0 where
  pub kind : Kind
  pub begun : Begins h kind
  pub node' : OnlyParts v kind t x y
  pub others : (k : Kind) → Begins h k → (us : Forest) (z : Place) → Walk (Whole so_far) (around v us) (tail (row_so_far k)) x us z → so_far.keeps k v us ≡ true → k ≡ kind

-- of those no node does
pub record NoneHeaded (v : Surroundings) (h : Heading) (x : Place) (e : Fault) : Type 0 where
  pub on : (k : Kind) → Begins h k → NoParts v k x e
