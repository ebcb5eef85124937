use Rattle.std.proofs.Common.{◌∙◌}
use Rattle.jsx_tree.specs.declared.tree.Expr.TheVariants as expr
use Rattle.jsx_tree.specs.declared.tree.Access.TheVariants as access
use Rattle.jsx_tree.specs.View.{view_expr}
use Rattle.jsx_tree.specs.Told.{told_expr}
use Rattle.jsx_tree.proofs.Views.{view-Expr-Access, view-Access-SuperIndex}
use Rattle.jsx_tree.proofs.Telling.{told-Expr-Access, told-Access-SuperIndex}
use Rattle.jsx_make.proofs.Making.{shows}
use Rattle.jsx_make.proofs.classes.super_index.Goals as goal

pub returns-clause-view : goal.returns-clause-view
returns-clause-view c = shows view_expr c.boxed.result (expr.Access (access.SuperIndex c.args.at c.args.index)) c.boxed.ensures (view-Expr-Access (access.SuperIndex c.args.at c.args.index) ∙ view-Access-SuperIndex c.args.at c.args.index)

pub returns-clause-told : goal.returns-clause-told
returns-clause-told c = shows told_expr c.boxed.result (expr.Access (access.SuperIndex c.args.at c.args.index)) c.boxed.ensures (told-Expr-Access (access.SuperIndex c.args.at c.args.index) ∙ told-Access-SuperIndex c.args.at c.args.index)
