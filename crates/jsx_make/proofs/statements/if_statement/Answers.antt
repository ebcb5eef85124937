use Rattle.std.proofs.Common.{◌∙◌}
use Rattle.jsx_tree.specs.declared.tree.Stmt.TheVariants as stmt
use Rattle.jsx_tree.specs.declared.tree.Control.TheVariants as control
use Rattle.jsx_tree.specs.View.{view_stmt}
use Rattle.jsx_tree.specs.Told.{told_stmt}
use Rattle.jsx_tree.proofs.Views.{view-Stmt-Control, view-Control-If}
use Rattle.jsx_tree.proofs.Telling.{told-Stmt-Control, told-Control-If}
use Rattle.jsx_make.specs.NodeSpans.{stmt_at}
use Rattle.jsx_make.proofs.NodeSpans.{at-Stmt-Control, at-Control-If}
use Rattle.jsx_make.proofs.Making.{shows}
use Rattle.jsx_make.proofs.statements.if_statement.Goals as goal

pub returns-clause-view : goal.returns-clause-view
returns-clause-view c = shows view_stmt c.boxed.result (stmt.Control (control.If c.args.at c.args.test c.args.then c.args.other)) c.boxed.ensures (view-Stmt-Control (control.If c.args.at c.args.test c.args.then c.args.other) ∙ view-Control-If c.args.at c.args.test c.args.then c.args.other)

pub returns-clause-told : goal.returns-clause-told
returns-clause-told c = shows told_stmt c.boxed.result (stmt.Control (control.If c.args.at c.args.test c.args.then c.args.other)) c.boxed.ensures (told-Stmt-Control (control.If c.args.at c.args.test c.args.then c.args.other) ∙ told-Control-If c.args.at c.args.test c.args.then c.args.other)

pub returns-clause-span : goal.returns-clause-span
returns-clause-span c = shows stmt_at c.boxed.result (stmt.Control (control.If c.args.at c.args.test c.args.then c.args.other)) c.boxed.ensures (at-Stmt-Control (control.If c.args.at c.args.test c.args.then c.args.other) ∙ at-Control-If c.args.at c.args.test c.args.then c.args.other)
