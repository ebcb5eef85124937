use Rattle.jsx_tree.specs.declared.tree.Prop.TheVariants as prop
use Rattle.jsx_tree.specs.View.{OfObject}
use Rattle.jsx_tree.specs.Told.{told_prop}
use Rattle.jsx_tree.proofs.Views.{view-Prop-Spread}
use Rattle.jsx_tree.proofs.Telling.{told-Prop-Spread}
use Rattle.jsx_make.specs.Members.{view_prop}
use Rattle.jsx_make.proofs.Making.{shows}
use Rattle.jsx_make.proofs.make.spread_member.Goals as goal

pub returns-clause-view : goal.returns-clause-view
returns-clause-view c = shows view_prop c.boxed.result (prop.Spread c.args.at c.args.inner) c.boxed.ensures (view-Prop-Spread c.args.at c.args.inner OfObject)

pub returns-clause-told : goal.returns-clause-told
returns-clause-told c = shows told_prop c.boxed.result (prop.Spread c.args.at c.args.inner) c.boxed.ensures (told-Prop-Spread c.args.at c.args.inner)
