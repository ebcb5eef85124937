use Rattle.jsx_tree.specs.declared.tree.Stmt.TheVariants as stmt
use Rattle.jsx_tree.specs.View.{view_stmt}
use Rattle.jsx_tree.specs.Told.{told_stmt}
use Rattle.jsx_tree.proofs.Views.{view-Stmt-Debugger}
use Rattle.jsx_tree.proofs.Telling.{told-Stmt-Debugger}
use Rattle.jsx_make.proofs.Making.{shows}
use Rattle.jsx_make.proofs.statements.debugger_statement.Goals as goal

pub returns-clause-view : goal.returns-clause-view
returns-clause-view c = shows view_stmt c.boxed.result (stmt.Debugger c.args.at) c.boxed.ensures (view-Stmt-Debugger c.args.at)

pub returns-clause-told : goal.returns-clause-told
returns-clause-told c = shows told_stmt c.boxed.result (stmt.Debugger c.args.at) c.boxed.ensures (told-Stmt-Debugger c.args.at)
