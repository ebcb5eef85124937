use Rattle.jsx_tree.specs.declared.tree.Link.TheVariants as link
use Rattle.jsx_tree.specs.View.{view_link}
use Rattle.jsx_tree.specs.Told.{told_link}
use Rattle.jsx_tree.proofs.Views.{view-Link-Index}
use Rattle.jsx_tree.proofs.Telling.{told-Link-Index}
use Rattle.jsx_make.proofs.Making.{shows}
use Rattle.jsx_make.proofs.make.index_link.Goals as goal

pub returns-clause-view : goal.returns-clause-view
returns-clause-view c = shows view_link c.boxed.result (link.Index c.args.at c.args.form c.args.index) c.boxed.ensures (view-Link-Index c.args.at c.args.form c.args.index)

pub returns-clause-told : goal.returns-clause-told
returns-clause-told c = shows told_link c.boxed.result (link.Index c.args.at c.args.form c.args.index) c.boxed.ensures (told-Link-Index c.args.at c.args.form c.args.index)
