use Rattle.std.proofs.Common.{◌∙◌, ap}
use Rattle.jsx_tree.specs.declared.tree.Expr.TheVariants as expr
use Rattle.jsx_tree.specs.Kinds.{Object, expression, node, list, none, part}
use Rattle.jsx_tree.specs.View.{view_expr}
use Rattle.jsx_tree.specs.Told.{told_expr}
use Rattle.jsx_tree.proofs.Views.{view-Expr-Object}
use Rattle.jsx_tree.proofs.Telling.{told-Expr-Object}
use Rattle.jsx_make.proofs.Making.{members_forest, shows}
use Rattle.jsx_make.proofs.make.object.Goals as goal

pub returns-clause-view : goal.returns-clause-view
returns-clause-view c = shows view_expr c.boxed.result (expr.Object c.args.at c.args.members) c.boxed.ensures (view-Expr-Object c.args.at c.args.members ∙ ap (λ ts. node (expression Object) (part (list ts) none)) (members_forest c.args.members.items))

pub returns-clause-told : goal.returns-clause-told
returns-clause-told c = shows told_expr c.boxed.result (expr.Object c.args.at c.args.members) c.boxed.ensures (told-Expr-Object c.args.at c.args.members)
