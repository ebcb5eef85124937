use Rattle.std.proofs.Common.{◌∙◌}
use Rattle.jsx_tree.specs.declared.tree.Expr.TheVariants as expr
use Rattle.jsx_tree.specs.declared.tree.Access.TheVariants as access
use Rattle.jsx_tree.specs.View.{view_expr}
use Rattle.jsx_tree.specs.Told.{told_expr}
use Rattle.jsx_tree.proofs.Views.{view-Expr-Access, view-Access-SuperCall}
use Rattle.jsx_tree.proofs.Telling.{told-Expr-Access, told-Access-SuperCall}
use Rattle.jsx_make.proofs.Making.{shows}
use Rattle.jsx_make.proofs.classes.super_call.Goals as goal

pub returns-clause-view : goal.returns-clause-view
returns-clause-view c = shows view_expr c.boxed.result (expr.Access (access.SuperCall c.args.at c.args.arguments)) c.boxed.ensures (view-Expr-Access (access.SuperCall c.args.at c.args.arguments) ∙ view-Access-SuperCall c.args.at c.args.arguments)

pub returns-clause-told : goal.returns-clause-told
returns-clause-told c = shows told_expr c.boxed.result (expr.Access (access.SuperCall c.args.at c.args.arguments)) c.boxed.ensures (told-Expr-Access (access.SuperCall c.args.at c.args.arguments) ∙ told-Access-SuperCall c.args.at c.args.arguments)
