use Rattle.jsx_tree.specs.declared.tree.Expr.TheVariants as expr
use Rattle.jsx_tree.specs.View.{view_expr}
use Rattle.jsx_tree.specs.Told.{told_expr}
use Rattle.jsx_tree.proofs.Views.{view-Expr-Array}
use Rattle.jsx_tree.proofs.Telling.{told-Expr-Array}
use Rattle.jsx_make.proofs.Making.{shows}
use Rattle.jsx_make.proofs.make.array.Goals as goal

pub returns-clause-view : goal.returns-clause-view
returns-clause-view c = shows view_expr c.boxed.result (expr.Array c.args.at c.args.items) c.boxed.ensures (view-Expr-Array c.args.at c.args.items)

pub returns-clause-told : goal.returns-clause-told
returns-clause-told c = shows told_expr c.boxed.result (expr.Array c.args.at c.args.items) c.boxed.ensures (told-Expr-Array c.args.at c.args.items)
