use Rattle.std.proofs.Common.{◌∙◌, ap}
use Rattle.jsx_tree.specs.declared.tree.Stmt.TheVariants as stmt
use Rattle.jsx_tree.specs.Kinds.{FunctionDecl, statement, node, list, none, part}
use Rattle.std.specs.Prelude.{map}
use Rattle.jsx_tree.specs.View.{body, inside, name_of, view_stmt}
use Rattle.jsx_tree.specs.Told.{told_stmt}
use Rattle.jsx_tree.proofs.Views.{bound_forest, view-Stmt-Function}
use Rattle.jsx_tree.proofs.Telling.{told-Stmt-Function}
use Rattle.jsx_make.proofs.Making.{shows}
use Rattle.jsx_make.proofs.functions.function_declaration.Goals as goal

pub returns-clause-view : goal.returns-clause-view
returns-clause-view c = shows view_stmt c.boxed.result (stmt.Function c.args.at c.args.name c.args.params c.args.directives c.args.statements) c.boxed.ensures (view-Stmt-Function c.args.at c.args.name c.args.params c.args.directives c.args.statements ∙ ap (λ ts. node (statement FunctionDecl) (part (name_of c.args.name) (part (list ts) (part (body c.args.directives.items (map (inside view_stmt) c.args.statements.items)) none)))) (bound_forest c.args.params.items))

pub returns-clause-told : goal.returns-clause-told
returns-clause-told c = shows told_stmt c.boxed.result (stmt.Function c.args.at c.args.name c.args.params c.args.directives c.args.statements) c.boxed.ensures (told-Stmt-Function c.args.at c.args.name c.args.params c.args.directives c.args.statements)
