use Rattle.std.proofs.Common.{◌∙◌, ap}
use Rattle.jsx_tree.specs.declared.tree.Expr.TheVariants as expr
use Rattle.jsx_tree.specs.declared.tree.Operation.TheVariants as operation
use Rattle.jsx_tree.specs.Kinds.{Arrow, expression, node, list, none, part}
use Rattle.jsx_tree.specs.View.{view_expr}
use Rattle.jsx_tree.specs.Told.{told_expr}
use Rattle.jsx_tree.proofs.Views.{bound_forest, view-Expr-Operation, view-Operation-Arrow}
use Rattle.jsx_tree.proofs.Telling.{told-Expr-Operation, told-Operation-Arrow}
use Rattle.jsx_make.proofs.Making.{shows}
use Rattle.jsx_make.proofs.arrows.arrow.Goals as goal

pub returns-clause-view : goal.returns-clause-view
returns-clause-view c = shows view_expr c.boxed.result (expr.Operation (operation.Arrow c.args.at c.args.params c.args.value)) c.boxed.ensures (view-Expr-Operation (operation.Arrow c.args.at c.args.params c.args.value) ∙ (view-Operation-Arrow c.args.at c.args.params c.args.value ∙ ap (λ ts. node (expression Arrow) (part (list ts) (part (view_expr c.args.value.value) none))) (bound_forest c.args.params.items)))

pub returns-clause-told : goal.returns-clause-told
returns-clause-told c = shows told_expr c.boxed.result (expr.Operation (operation.Arrow c.args.at c.args.params c.args.value)) c.boxed.ensures (told-Expr-Operation (operation.Arrow c.args.at c.args.params c.args.value) ∙ told-Operation-Arrow c.args.at c.args.params c.args.value)
