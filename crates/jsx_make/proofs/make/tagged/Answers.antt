use Rattle.std.proofs.Common.{◌∙◌}
use Rattle.jsx_tree.specs.declared.tree.Expr.TheVariants as expr
use Rattle.jsx_tree.specs.declared.tree.Access.TheVariants as access
use Rattle.jsx_tree.specs.View.{view_expr}
use Rattle.jsx_tree.specs.Told.{told_expr}
use Rattle.jsx_tree.proofs.Views.{view-Expr-Access, view-Access-Tagged}
use Rattle.jsx_tree.proofs.Telling.{told-Expr-Access, told-Access-Tagged}
use Rattle.jsx_make.proofs.Making.{shows}
use Rattle.jsx_make.proofs.make.tagged.Goals as goal

pub returns-clause-view : goal.returns-clause-view
returns-clause-view c = shows view_expr c.boxed.result (expr.Access (access.Tagged c.args.at c.args.tag c.args.here c.args.pieces c.args.parts)) c.boxed.ensures (view-Expr-Access (access.Tagged c.args.at c.args.tag c.args.here c.args.pieces c.args.parts) ∙ view-Access-Tagged c.args.at c.args.tag c.args.here c.args.pieces c.args.parts)

pub returns-clause-told : goal.returns-clause-told
returns-clause-told c = shows told_expr c.boxed.result (expr.Access (access.Tagged c.args.at c.args.tag c.args.here c.args.pieces c.args.parts)) c.boxed.ensures (told-Expr-Access (access.Tagged c.args.at c.args.tag c.args.here c.args.pieces c.args.parts) ∙ told-Access-Tagged c.args.at c.args.tag c.args.here c.args.pieces c.args.parts)
