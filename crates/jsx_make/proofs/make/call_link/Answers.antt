use Rattle.jsx_tree.specs.declared.tree.Link.TheVariants as link
use Rattle.jsx_tree.specs.View.{view_link}
use Rattle.jsx_tree.specs.Told.{told_link}
use Rattle.jsx_tree.proofs.Views.{view-Link-Call}
use Rattle.jsx_tree.proofs.Telling.{told-Link-Call}
use Rattle.jsx_make.proofs.Making.{shows}
use Rattle.jsx_make.proofs.make.call_link.Goals as goal

pub returns-clause-view : goal.returns-clause-view
returns-clause-view c = shows view_link c.boxed.result (link.Call c.args.at c.args.form c.args.arguments) c.boxed.ensures (view-Link-Call c.args.at c.args.form c.args.arguments)

pub returns-clause-told : goal.returns-clause-told
returns-clause-told c = shows told_link c.boxed.result (link.Call c.args.at c.args.form c.args.arguments) c.boxed.ensures (told-Link-Call c.args.at c.args.form c.args.arguments)
