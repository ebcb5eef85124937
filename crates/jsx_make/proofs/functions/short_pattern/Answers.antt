use Rattle.jsx_tree.specs.declared.tree.Pat.TheVariants as pat
use Rattle.jsx_tree.specs.View.{view_pattern}
use Rattle.jsx_tree.specs.Told.{told_pat}
use Rattle.jsx_tree.proofs.Views.{view-Pat-Shorthand}
use Rattle.jsx_tree.proofs.Telling.{told-Pat-Shorthand}
use Rattle.jsx_make.proofs.Making.{shows, shows_at}
use Rattle.std.specs.Prelude.{None}
use Rattle.jsx_make.proofs.functions.short_pattern.Goals as goal

pub returns-clause-view : goal.returns-clause-view
returns-clause-view c = shows_at view_pattern c.boxed.result (pat.Shorthand c.args.at c.args.name None) c.boxed.ensures (view-Pat-Shorthand c.args.at c.args.name None)

pub returns-clause-told : goal.returns-clause-told
returns-clause-told c = shows told_pat c.boxed.result (pat.Shorthand c.args.at c.args.name None) c.boxed.ensures (told-Pat-Shorthand c.args.at c.args.name None)
