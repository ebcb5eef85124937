use Rattle.jsx_tree.specs.declared.tree.Stmt.TheVariants as stmt
use Rattle.jsx_tree.specs.View.{view_stmt}
use Rattle.jsx_tree.specs.Told.{told_stmt}
use Rattle.jsx_tree.proofs.Views.{view-Stmt-Return}
use Rattle.jsx_tree.proofs.Telling.{told-Stmt-Return}
use Rattle.jsx_make.proofs.Making.{shows}
use Rattle.jsx_make.proofs.functions.return_statement.Goals as goal

pub returns-clause-view : goal.returns-clause-view
returns-clause-view c = shows view_stmt c.boxed.result (stmt.Return c.args.at c.args.value) c.boxed.ensures (view-Stmt-Return c.args.at c.args.value)

pub returns-clause-told : goal.returns-clause-told
returns-clause-told c = shows told_stmt c.boxed.result (stmt.Return c.args.at c.args.value) c.boxed.ensures (told-Stmt-Return c.args.at c.args.value)
