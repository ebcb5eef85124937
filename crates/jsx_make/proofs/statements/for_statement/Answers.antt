use Rattle.std.proofs.Common.{◌∙◌}
use Rattle.jsx_tree.specs.declared.tree.Stmt.TheVariants as stmt
use Rattle.jsx_tree.specs.declared.tree.Control.TheVariants as control
use Rattle.jsx_tree.specs.View.{view_stmt}
use Rattle.jsx_tree.specs.Told.{told_stmt}
use Rattle.jsx_tree.proofs.Views.{view-Stmt-Control, view-Control-For}
use Rattle.jsx_tree.proofs.Telling.{told-Stmt-Control, told-Control-For}
use Rattle.jsx_make.specs.NodeSpans.{stmt_at}
use Rattle.jsx_make.proofs.NodeSpans.{at-Stmt-Control, at-Control-For}
use Rattle.jsx_make.proofs.Making.{shows}
use Rattle.jsx_make.proofs.statements.for_statement.Goals as goal

pub returns-clause-view : goal.returns-clause-view
returns-clause-view c = shows view_stmt c.boxed.result (stmt.Control (control.For c.args.at c.args.init c.args.test c.args.update c.args.body)) c.boxed.ensures (view-Stmt-Control (control.For c.args.at c.args.init c.args.test c.args.update c.args.body) ∙ view-Control-For c.args.at c.args.init c.args.test c.args.update c.args.body)

pub returns-clause-told : goal.returns-clause-told
returns-clause-told c = shows told_stmt c.boxed.result (stmt.Control (control.For c.args.at c.args.init c.args.test c.args.update c.args.body)) c.boxed.ensures (told-Stmt-Control (control.For c.args.at c.args.init c.args.test c.args.update c.args.body) ∙ told-Control-For c.args.at c.args.init c.args.test c.args.update c.args.body)

pub returns-clause-span : goal.returns-clause-span
returns-clause-span c = shows stmt_at c.boxed.result (stmt.Control (control.For c.args.at c.args.init c.args.test c.args.update c.args.body)) c.boxed.ensures (at-Stmt-Control (control.For c.args.at c.args.init c.args.test c.args.update c.args.body) ∙ at-Control-For c.args.at c.args.init c.args.test c.args.update c.args.body)
