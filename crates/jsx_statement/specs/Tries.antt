-- What a `try` has behind its block.
use Rattle.std.specs.Prelude.{◌≡◌, List, [], ◌∷◌, codes}
use Rattle.jsx_tree.specs.Signs.{Space}
use Rattle.jsx_tree.specs.Nonterminals as grammar
use Rattle.jsx_tree.specs.Kinds.{Binds, Catch, statement, Tree, node, list, none, part}
use Rattle.jsx_tree.specs.Grammar.{Optional, Part, Production, Symbol, key, p}
use Rattle.jsx_tree.specs.Grammar as symbol
use Rattle.jsx_tree.specs.Reading.{Place}
use Rattle.jsx_tree.specs.StaticRules.{Surroundings}
use Rattle.jsx_tree.specs.Answers.{Only}
use Rattle.jsx_operand.specs.SoFar.{so_far}
use Rattle.jsx_tree.specs.Walk.{Piece, nothing, one, pieces}

-- what is caught, and what is done last, as they are read: where one is absent its word doesn't come next
abbrev pub catch_symbol : Symbol
catch_symbol = Optional (key "catch" ∷ []) grammar.CatchClause [] (codes "catch" ∷ [])

abbrev pub finally_symbol : Symbol
finally_symbol = Optional (key "finally" ∷ []) grammar.BlockOnly [] (codes "finally" ∷ [])

-- and as they are laid
abbrev pub catch_symbols : Production
catch_symbols = Optional (Space ∷ key "catch" ∷ Space ∷ []) grammar.CatchClause [] (codes "catch" ∷ []) ∷ []

abbrev pub finally_symbols : Production
finally_symbols = Optional (Space ∷ key "finally" ∷ Space ∷ []) grammar.BlockOnly [] (codes "finally" ∷ []) ∷ []

-- what is caught, behind the `(` of its name
abbrev pub catch_row : List Piece
catch_row = pieces [] (Part (grammar.Pat Binds) ∷ p ")" ∷ Part grammar.BlockOnly ∷ [])

pub record IsCatch (v : Surroundings) (x : Place) (t : Tree) (y : Place) : Type 0 where
  pub name : Tree
  pub body : Tree
  pub bracket : Place
  pub brace : Place
  pub is : t ≡ node (statement Catch) (part (list (part name none)) (part body none))
  pub named : Only so_far v (Part (grammar.Pat Binds)) x (one name) bracket
  pub closed : Only so_far v (symbol.Fixed (symbol.pun ")")) bracket nothing brace
  pub block : Only so_far v (Part grammar.BlockOnly) brace (one body) y
