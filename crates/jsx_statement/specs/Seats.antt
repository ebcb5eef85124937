-- Where a statement stands.
use Rattle.jsx_tree.specs.Nonterminals.{Nonterminal, Stmt, SubStmt}
use Rattle.jsx_statement.specs.declared.statement.Seat.{Seat}
use Rattle.jsx_statement.specs.declared.statement.Seat.TheVariants.{Listed, Part}

abbrev pub symbol_of : Seat → Nonterminal
symbol_of Listed = Stmt
symbol_of Part = SubStmt
