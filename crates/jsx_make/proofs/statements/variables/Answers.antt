use Rattle.std.proofs.Common.{◌∙◌, ap}
use Rattle.jsx_tree.specs.declared.tree.Stmt.TheVariants as stmt
use Rattle.jsx_tree.specs.Kinds.{Var, statement, node, list, none, part}
use Rattle.jsx_tree.specs.View.{view_stmt, word_of}
use Rattle.jsx_tree.specs.Told.{told_stmt}
use Rattle.jsx_tree.proofs.Views.{bound_forest, view-Stmt-Var}
use Rattle.jsx_tree.proofs.Telling.{told-Stmt-Var}
use Rattle.jsx_make.proofs.Making.{shows}
use Rattle.jsx_make.proofs.statements.variables.Goals as goal

pub returns-clause-view : goal.returns-clause-view
returns-clause-view c = shows view_stmt c.boxed.result (stmt.Var c.args.at c.args.word c.args.declarators) c.boxed.ensures (view-Stmt-Var c.args.at c.args.word c.args.declarators ∙ ap (λ ts. node (statement (Var (word_of c.args.word))) (part (list ts) none)) (bound_forest c.args.declarators.items))

pub returns-clause-told : goal.returns-clause-told
returns-clause-told c = shows told_stmt c.boxed.result (stmt.Var c.args.at c.args.word c.args.declarators) c.boxed.ensures (told-Stmt-Var c.args.at c.args.word c.args.declarators)
