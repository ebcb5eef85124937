use Rattle.std.proofs.Common.{◌∙◌}
use Rattle.jsx_tree.specs.declared.tree.Expr.TheVariants as expr
use Rattle.jsx_tree.specs.declared.tree.Operation.TheVariants as operation
use Rattle.jsx_tree.specs.View.{view_expr}
use Rattle.jsx_tree.specs.Told.{told_expr}
use Rattle.jsx_tree.proofs.Views.{view-Expr-Operation, view-Operation-BareArrowBlock}
use Rattle.jsx_tree.proofs.Telling.{told-Expr-Operation, told-Operation-BareArrowBlock}
use Rattle.jsx_make.proofs.Making.{shows}
use Rattle.jsx_make.proofs.arrows.bare_arrow_block.Goals as goal

pub returns-clause-view : goal.returns-clause-view
returns-clause-view c = shows view_expr c.boxed.result (expr.Operation (operation.BareArrowBlock c.args.at c.args.param c.args.directives c.args.statements)) c.boxed.ensures (view-Expr-Operation (operation.BareArrowBlock c.args.at c.args.param c.args.directives c.args.statements) ∙ view-Operation-BareArrowBlock c.args.at c.args.param c.args.directives c.args.statements)

pub returns-clause-told : goal.returns-clause-told
returns-clause-told c = shows told_expr c.boxed.result (expr.Operation (operation.BareArrowBlock c.args.at c.args.param c.args.directives c.args.statements)) c.boxed.ensures (told-Expr-Operation (operation.BareArrowBlock c.args.at c.args.param c.args.directives c.args.statements) ∙ told-Operation-BareArrowBlock c.args.at c.args.param c.args.directives c.args.statements)
