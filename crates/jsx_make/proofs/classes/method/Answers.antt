use Rattle.std.proofs.Common.{◌∙◌, ap}
use Rattle.std.specs.Prelude.{map}
use Rattle.jsx_tree.specs.declared.tree.Prop.TheVariants as prop
use Rattle.jsx_tree.specs.Kinds.{Method, function, node, list, none, part}
use Rattle.jsx_tree.specs.View.{body, holder_of, inside, view_key, view_member, view_stmt}
use Rattle.jsx_tree.specs.Told.{told_prop}
use Rattle.jsx_tree.proofs.Views.{bound_forest, view-Prop-Method}
use Rattle.jsx_tree.proofs.Telling.{told-Prop-Method}
use Rattle.jsx_make.proofs.Making.{shows, shows_at}
use Rattle.jsx_make.proofs.classes.method.Goals as goal

pub returns-clause-view : goal.returns-clause-view
returns-clause-view c = shows_at view_member c.boxed.result (prop.Method c.args.at c.args.placement c.args.key c.args.params c.args.directives c.args.statements) c.boxed.ensures (λ o. view-Prop-Method c.args.at c.args.placement c.args.key c.args.params c.args.directives c.args.statements o ∙ ap (λ ts. node (function (Method (holder_of o c.args.placement))) (part (view_key c.args.key) (part (list ts) (part (body c.args.directives.items (map (inside view_stmt) c.args.statements.items)) none)))) (bound_forest c.args.params.items))

pub returns-clause-told : goal.returns-clause-told
returns-clause-told c = shows told_prop c.boxed.result (prop.Method c.args.at c.args.placement c.args.key c.args.params c.args.directives c.args.statements) c.boxed.ensures (told-Prop-Method c.args.at c.args.placement c.args.key c.args.params c.args.directives c.args.statements)
