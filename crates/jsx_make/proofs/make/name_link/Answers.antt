use Rattle.jsx_tree.specs.declared.tree.Link.TheVariants as link
use Rattle.jsx_tree.specs.View.{view_link}
use Rattle.jsx_tree.specs.Told.{told_link}
use Rattle.jsx_tree.proofs.Views.{view-Link-Member}
use Rattle.jsx_tree.proofs.Telling.{told-Link-Member}
use Rattle.jsx_make.proofs.Making.{shows}
use Rattle.jsx_make.proofs.make.name_link.Goals as goal

pub returns-clause-view : goal.returns-clause-view
returns-clause-view c = shows view_link c.boxed.result (link.Member c.args.at c.args.form c.args.name) c.boxed.ensures (view-Link-Member c.args.at c.args.form c.args.name)

pub returns-clause-told : goal.returns-clause-told
returns-clause-told c = shows told_link c.boxed.result (link.Member c.args.at c.args.form c.args.name) c.boxed.ensures (told-Link-Member c.args.at c.args.form c.args.name)
