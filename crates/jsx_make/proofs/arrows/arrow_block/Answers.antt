use Rattle.std.proofs.Common.{◌∙◌, ap}
use Rattle.jsx_tree.specs.declared.tree.Expr.TheVariants as expr
use Rattle.jsx_tree.specs.declared.tree.Operation.TheVariants as operation
use Rattle.jsx_tree.specs.Kinds.{ArrowBlock, expression, node, list, none, part}
use Rattle.std.specs.Prelude.{map}
use Rattle.jsx_tree.specs.View.{body, inside, view_expr, view_stmt}
use Rattle.jsx_tree.specs.Told.{told_expr}
use Rattle.jsx_tree.proofs.Views.{bound_forest, view-Expr-Operation, view-Operation-ArrowBlock}
use Rattle.jsx_tree.proofs.Telling.{told-Expr-Operation, told-Operation-ArrowBlock}
use Rattle.jsx_make.proofs.Making.{shows}
use Rattle.jsx_make.proofs.arrows.arrow_block.Goals as goal

pub returns-clause-view : goal.returns-clause-view
returns-clause-view c = shows view_expr c.boxed.result (expr.Operation (operation.ArrowBlock c.args.at c.args.params c.args.directives c.args.statements)) c.boxed.ensures (view-Expr-Operation (operation.ArrowBlock c.args.at c.args.params c.args.directives c.args.statements) ∙ (view-Operation-ArrowBlock c.args.at c.args.params c.args.directives c.args.statements ∙ ap (λ ts. node (expression ArrowBlock) (part (list ts) (part (body c.args.directives.items (map (inside view_stmt) c.args.statements.items)) none))) (bound_forest c.args.params.items)))

pub returns-clause-told : goal.returns-clause-told
returns-clause-told c = shows told_expr c.boxed.result (expr.Operation (operation.ArrowBlock c.args.at c.args.params c.args.directives c.args.statements)) c.boxed.ensures (told-Expr-Operation (operation.ArrowBlock c.args.at c.args.params c.args.directives c.args.statements) ∙ told-Operation-ArrowBlock c.args.at c.args.params c.args.directives c.args.statements)
