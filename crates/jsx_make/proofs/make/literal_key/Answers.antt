use Rattle.jsx_tree.proofs.Views.{view-Key-Literal}
use Rattle.jsx_tree.proofs.Telling.{told-Key-Literal}
use Rattle.jsx_make.proofs.make.literal_key.Goals as goal

pub returns-clause-view : goal.returns-clause-view
returns-clause-view c = view-Key-Literal c.args.kind c.args.text

pub returns-clause-told : goal.returns-clause-told
returns-clause-told c = told-Key-Literal c.args.kind c.args.text
