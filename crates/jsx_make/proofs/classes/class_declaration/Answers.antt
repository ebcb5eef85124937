use Rattle.std.proofs.Common.{◌∙◌, ap}
use Rattle.jsx_tree.specs.declared.tree.Stmt.TheVariants as stmt
use Rattle.jsx_tree.specs.Kinds.{ClassDecl, statement, node, list, none, part}
use Rattle.jsx_tree.specs.View.{name_of, optional_of, view_expr, view_stmt}
use Rattle.jsx_tree.specs.Told.{told_stmt}
use Rattle.jsx_tree.proofs.Views.{view-Stmt-Class}
use Rattle.jsx_tree.proofs.Telling.{told-Stmt-Class}
use Rattle.jsx_make.proofs.Making.{class_forest, shows}
use Rattle.jsx_make.proofs.classes.class_declaration.Goals as goal

pub returns-clause-view : goal.returns-clause-view
returns-clause-view c = shows view_stmt c.boxed.result (stmt.Class c.args.at c.args.name c.args.heritage c.args.members) c.boxed.ensures (view-Stmt-Class c.args.at c.args.name c.args.heritage c.args.members ∙ ap (λ ts. node (statement ClassDecl) (part (name_of c.args.name) (part (optional_of view_expr c.args.heritage) (part (list ts) none)))) (class_forest c.args.members.items))

pub returns-clause-told : goal.returns-clause-told
returns-clause-told c = shows told_stmt c.boxed.result (stmt.Class c.args.at c.args.name c.args.heritage c.args.members) c.boxed.ensures (told-Stmt-Class c.args.at c.args.name c.args.heritage c.args.members)
