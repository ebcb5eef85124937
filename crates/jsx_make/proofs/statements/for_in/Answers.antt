use Rattle.std.proofs.Common.{◌∙◌}
use Rattle.jsx_tree.specs.declared.tree.Stmt.TheVariants as stmt
use Rattle.jsx_tree.specs.declared.tree.Control.TheVariants as control
use Rattle.jsx_tree.specs.View.{view_stmt}
use Rattle.jsx_tree.specs.Told.{told_stmt}
use Rattle.jsx_tree.proofs.Views.{view-Stmt-Control, view-Control-ForIn}
use Rattle.jsx_tree.proofs.Telling.{told-Stmt-Control, told-Control-ForIn}
use Rattle.jsx_make.specs.NodeSpans.{stmt_at}
use Rattle.jsx_make.proofs.NodeSpans.{at-Stmt-Control, at-Control-ForIn}
use Rattle.jsx_make.proofs.Making.{shows}
use Rattle.jsx_make.proofs.statements.for_in.Goals as goal

pub returns-clause-view : goal.returns-clause-view
returns-clause-view c = shows view_stmt c.boxed.result (stmt.Control (control.ForIn c.args.at c.args.head c.args.object c.args.body)) c.boxed.ensures (view-Stmt-Control (control.ForIn c.args.at c.args.head c.args.object c.args.body) ∙ view-Control-ForIn c.args.at c.args.head c.args.object c.args.body)

pub returns-clause-told : goal.returns-clause-told
returns-clause-told c = shows told_stmt c.boxed.result (stmt.Control (control.ForIn c.args.at c.args.head c.args.object c.args.body)) c.boxed.ensures (told-Stmt-Control (control.ForIn c.args.at c.args.head c.args.object c.args.body) ∙ told-Control-ForIn c.args.at c.args.head c.args.object c.args.body)

pub returns-clause-span : goal.returns-clause-span
returns-clause-span c = shows stmt_at c.boxed.result (stmt.Control (control.ForIn c.args.at c.args.head c.args.object c.args.body)) c.boxed.ensures (at-Stmt-Control (control.ForIn c.args.at c.args.head c.args.object c.args.body) ∙ at-Control-ForIn c.args.at c.args.head c.args.object c.args.body)
