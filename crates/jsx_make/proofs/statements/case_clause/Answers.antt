use Rattle.jsx_tree.specs.declared.tree.Control.TheVariants as control
use Rattle.jsx_tree.specs.View.{view_control}
use Rattle.jsx_tree.specs.Told.{told_control}
use Rattle.jsx_tree.proofs.Views.{view-Control-Case}
use Rattle.jsx_tree.proofs.Telling.{told-Control-Case}
use Rattle.jsx_make.proofs.Making.{shows}
use Rattle.jsx_make.proofs.statements.case_clause.Goals as goal

pub returns-clause-view : goal.returns-clause-view
returns-clause-view c = shows view_control c.boxed.result (control.Case c.args.at c.args.test c.args.body) c.boxed.ensures (view-Control-Case c.args.at c.args.test c.args.body)

pub returns-clause-told : goal.returns-clause-told
returns-clause-told c = shows told_control c.boxed.result (control.Case c.args.at c.args.test c.args.body) c.boxed.ensures (told-Control-Case c.args.at c.args.test c.args.body)
