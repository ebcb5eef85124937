use Rattle.std.proofs.Common.{◌∙◌}
use Rattle.jsx_tree.specs.declared.operator.UpdateSide.TheVariants as side
use Rattle.jsx_tree.specs.declared.tree.Expr.TheVariants as expr
use Rattle.jsx_tree.specs.declared.tree.Operation.TheVariants as operation
use Rattle.jsx_tree.specs.View.{view_expr}
use Rattle.jsx_tree.specs.Told.{told_expr}
use Rattle.jsx_tree.proofs.Views.{view-Expr-Operation, view-Operation-Update}
use Rattle.jsx_tree.proofs.Telling.{told-Expr-Operation, told-Operation-Update}
use Rattle.jsx_make.proofs.Making.{shows}
use Rattle.jsx_make.proofs.make.prefix_update.Goals as goal

pub returns-clause-view : goal.returns-clause-view
returns-clause-view c = shows view_expr c.boxed.result (expr.Operation (operation.Update c.args.at c.args.operator side.Before c.args.target)) c.boxed.ensures (view-Expr-Operation (operation.Update c.args.at c.args.operator side.Before c.args.target) ∙ view-Operation-Update c.args.at c.args.operator side.Before c.args.target)

pub returns-clause-told : goal.returns-clause-told
returns-clause-told c = shows told_expr c.boxed.result (expr.Operation (operation.Update c.args.at c.args.operator side.Before c.args.target)) c.boxed.ensures (told-Expr-Operation (operation.Update c.args.at c.args.operator side.Before c.args.target) ∙ told-Operation-Update c.args.at c.args.operator side.Before c.args.target)
