use Rattle.jsx_tree.proofs.Views.{view-Key-Name}
use Rattle.jsx_tree.proofs.Telling.{told-Key-Name}
use Rattle.jsx_make.proofs.make.name_key.Goals as goal

pub returns-clause-view : goal.returns-clause-view
returns-clause-view c = view-Key-Name c.args.name

pub returns-clause-told : goal.returns-clause-told
returns-clause-told c = told-Key-Name c.args.name
