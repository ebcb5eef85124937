use Rattle.std.proofs.Common.{◌∙◌}
use Rattle.jsx_tree.specs.declared.tree.Expr.TheVariants as expr
use Rattle.jsx_tree.specs.declared.tree.Operation.TheVariants as operation
use Rattle.jsx_tree.specs.View.{view_expr}
use Rattle.jsx_tree.specs.Told.{told_expr}
use Rattle.jsx_tree.proofs.Views.{view-Expr-Operation, view-Operation-BareArrow}
use Rattle.jsx_tree.proofs.Telling.{told-Expr-Operation, told-Operation-BareArrow}
use Rattle.jsx_make.proofs.Making.{shows}
use Rattle.jsx_make.proofs.arrows.bare_arrow.Goals as goal

pub returns-clause-view : goal.returns-clause-view
returns-clause-view c = shows view_expr c.boxed.result (expr.Operation (operation.BareArrow c.args.at c.args.param c.args.value)) c.boxed.ensures (view-Expr-Operation (operation.BareArrow c.args.at c.args.param c.args.value) ∙ view-Operation-BareArrow c.args.at c.args.param c.args.value)

pub returns-clause-told : goal.returns-clause-told
returns-clause-told c = shows told_expr c.boxed.result (expr.Operation (operation.BareArrow c.args.at c.args.param c.args.value)) c.boxed.ensures (told-Expr-Operation (operation.BareArrow c.args.at c.args.param c.args.value) ∙ told-Operation-BareArrow c.args.at c.args.param c.args.value)
