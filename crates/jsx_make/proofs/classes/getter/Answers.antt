use Rattle.jsx_tree.specs.declared.tree.Prop.TheVariants as prop
use Rattle.jsx_tree.specs.View.{view_member}
use Rattle.jsx_tree.specs.Told.{told_prop}
use Rattle.jsx_tree.proofs.Views.{view-Prop-Getter}
use Rattle.jsx_tree.proofs.Telling.{told-Prop-Getter}
use Rattle.jsx_make.proofs.Making.{shows, shows_at}
use Rattle.jsx_make.proofs.classes.getter.Goals as goal

pub returns-clause-view : goal.returns-clause-view
returns-clause-view c = shows_at view_member c.boxed.result (prop.Getter c.args.at c.args.placement c.args.key c.args.directives c.args.statements) c.boxed.ensures (view-Prop-Getter c.args.at c.args.placement c.args.key c.args.directives c.args.statements)

pub returns-clause-told : goal.returns-clause-told
returns-clause-told c = shows told_prop c.boxed.result (prop.Getter c.args.at c.args.placement c.args.key c.args.directives c.args.statements) c.boxed.ensures (told-Prop-Getter c.args.at c.args.placement c.args.key c.args.directives c.args.statements)
