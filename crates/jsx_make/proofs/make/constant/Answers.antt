use Rattle.jsx_tree.specs.declared.tree.Expr.TheVariants as expr
use Rattle.jsx_tree.specs.View.{view_expr}
use Rattle.jsx_tree.specs.Told.{told_expr}
use Rattle.jsx_tree.proofs.Views.{view-Expr-Word}
use Rattle.jsx_tree.proofs.Telling.{told-Expr-Word}
use Rattle.jsx_make.proofs.Making.{shows}
use Rattle.jsx_make.proofs.make.constant.Goals as goal

pub returns-clause-view : goal.returns-clause-view
returns-clause-view c = shows view_expr c.boxed.result (expr.Word c.args.at c.args.value) c.boxed.ensures (view-Expr-Word c.args.at c.args.value)

pub returns-clause-told : goal.returns-clause-told
returns-clause-told c = shows told_expr c.boxed.result (expr.Word c.args.at c.args.value) c.boxed.ensures (told-Expr-Word c.args.at c.args.value)
