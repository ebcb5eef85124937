use Rattle.jsx_tree.specs.declared.tree.Expr.TheVariants as expr
use Rattle.jsx_tree.specs.View.{view_expr}
use Rattle.jsx_tree.specs.Told.{told_expr}
use Rattle.jsx_tree.proofs.Views.{view-Expr-Literal}
use Rattle.jsx_tree.proofs.Telling.{told-Expr-Literal}
use Rattle.jsx_make.proofs.Making.{shows}
use Rattle.jsx_make.proofs.make.literal.Goals as goal

pub returns-clause-view : goal.returns-clause-view
returns-clause-view c = shows view_expr c.boxed.result (expr.Literal c.args.at c.args.kind c.args.text) c.boxed.ensures (view-Expr-Literal c.args.at c.args.kind c.args.text)

pub returns-clause-told : goal.returns-clause-told
returns-clause-told c = shows told_expr c.boxed.result (expr.Literal c.args.at c.args.kind c.args.text) c.boxed.ensures (told-Expr-Literal c.args.at c.args.kind c.args.text)
