use Rattle.jsx_tree.specs.declared.tree.Pat.TheVariants as pat
use Rattle.jsx_tree.specs.View.{view_pattern}
use Rattle.jsx_tree.specs.Told.{told_pat}
use Rattle.jsx_tree.proofs.Views.{view-Pat-Pair}
use Rattle.jsx_tree.proofs.Telling.{told-Pat-Pair}
use Rattle.jsx_make.proofs.Making.{shows, shows_at}
use Rattle.jsx_make.proofs.functions.pair_pattern.Goals as goal

pub returns-clause-view : goal.returns-clause-view
returns-clause-view c = shows_at view_pattern c.boxed.result (pat.Pair c.args.at c.args.key c.args.value) c.boxed.ensures (view-Pat-Pair c.args.at c.args.key c.args.value)

pub returns-clause-told : goal.returns-clause-told
returns-clause-told c = shows told_pat c.boxed.result (pat.Pair c.args.at c.args.key c.args.value) c.boxed.ensures (told-Pat-Pair c.args.at c.args.key c.args.value)
