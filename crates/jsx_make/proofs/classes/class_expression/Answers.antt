use Rattle.std.proofs.Common.{◌∙◌, ap}
use Rattle.jsx_tree.specs.declared.tree.Expr.TheVariants as expr
use Rattle.jsx_tree.specs.Kinds.{ClassExpr, function, node, list, none, part}
use Rattle.jsx_tree.specs.View.{name_of, optional_of, view_expr}
use Rattle.jsx_tree.specs.Told.{told_expr}
use Rattle.jsx_tree.proofs.Views.{view-Expr-Class}
use Rattle.jsx_tree.proofs.Telling.{told-Expr-Class}
use Rattle.jsx_make.proofs.Making.{class_forest, shows}
use Rattle.jsx_make.proofs.classes.class_expression.Goals as goal

pub returns-clause-view : goal.returns-clause-view
returns-clause-view c = shows view_expr c.boxed.result (expr.Class c.args.at c.args.name c.args.heritage c.args.members) c.boxed.ensures (view-Expr-Class c.args.at c.args.name c.args.heritage c.args.members ∙ ap (λ ts. node (function ClassExpr) (part (optional_of name_of c.args.name) (part (optional_of view_expr c.args.heritage) (part (list ts) none)))) (class_forest c.args.members.items))

pub returns-clause-told : goal.returns-clause-told
returns-clause-told c = shows told_expr c.boxed.result (expr.Class c.args.at c.args.name c.args.heritage c.args.members) c.boxed.ensures (told-Expr-Class c.args.at c.args.name c.args.heritage c.args.members)
