use Rattle.jsx_tree.proofs.Views.{view-Key-Computed}
use Rattle.jsx_tree.proofs.Telling.{told-Key-Computed}
use Rattle.jsx_make.proofs.make.computed_key.Goals as goal

pub returns-clause-view : goal.returns-clause-view
returns-clause-view c = view-Key-Computed c.args.at c.args.inner

pub returns-clause-told : goal.returns-clause-told
returns-clause-told c = told-Key-Computed c.args.at c.args.inner
