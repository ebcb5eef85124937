use Rattle.jsx_tree.specs.declared.tree.Control.TheVariants as control
use Rattle.jsx_tree.specs.View.{view_control}
use Rattle.jsx_tree.specs.Told.{told_control}
use Rattle.jsx_tree.proofs.Views.{view-Control-Catch}
use Rattle.jsx_tree.proofs.Telling.{told-Control-Catch}
use Rattle.jsx_make.proofs.Making.{shows}
use Rattle.jsx_make.proofs.statements.catch_clause.Goals as goal

pub returns-clause-view : goal.returns-clause-view
returns-clause-view c = shows view_control c.boxed.result (control.Catch c.args.at c.args.parameter c.args.body) c.boxed.ensures (view-Control-Catch c.args.at c.args.parameter c.args.body)

pub returns-clause-told : goal.returns-clause-told
returns-clause-told c = shows told_control c.boxed.result (control.Catch c.args.at c.args.parameter c.args.body) c.boxed.ensures (told-Control-Catch c.args.at c.args.parameter c.args.body)
