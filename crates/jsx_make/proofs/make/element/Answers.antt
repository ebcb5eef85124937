use Rattle.std.proofs.Common.{ap, ◌∙◌}
use Rattle.jsx_tree.specs.declared.tree.Expr.TheVariants as expr
use Rattle.jsx_tree.specs.View.{view_expr, view_jsx}
use Rattle.jsx_tree.specs.Told.{told_expr, told_jsx}
use Rattle.jsx_tree.proofs.Views.{view-Expr-Jsx, view-Jsx-Element}
use Rattle.jsx_tree.proofs.Telling.{told-Expr-Jsx, told-Jsx-Element}
use Rattle.jsx_make.proofs.Making.{shows}
use Rattle.jsx_make.proofs.make.element.Goals as goal

pub returns-clause-view : goal.returns-clause-view
returns-clause-view c = shows view_expr c.boxed-2.result (expr.Jsx c.in_ok-element.element) c.boxed-2.ensures (view-Expr-Jsx c.in_ok-element.element ∙ (ap view_jsx c.in_ok-element.ensures ∙ view-Jsx-Element c.args.at c.args.tag c.args.attributes))

pub returns-clause-told : goal.returns-clause-told
returns-clause-told c = shows told_expr c.boxed-2.result (expr.Jsx c.in_ok-element.element) c.boxed-2.ensures (told-Expr-Jsx c.in_ok-element.element ∙ (ap told_jsx c.in_ok-element.ensures ∙ told-Jsx-Element c.args.at c.args.tag c.args.attributes))
