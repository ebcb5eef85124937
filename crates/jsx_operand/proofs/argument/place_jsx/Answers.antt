use Rattle.std.proofs.Common.{◌∙◌, ap}
use Rattle.jsx_tree.specs.Told.{told_jsx}
use Rattle.jsx_tree.specs.View.{view_jsx}
use Rattle.jsx_operand.specs.Spans.{spanned}
use Rattle.jsx_operand.proofs.argument.place_jsx.Goals as goal

pub returns-clause-view : goal.returns-clause-view
returns-clause-view c = c.place_jsx_node.ensures.view ∙ ap view_jsx c.deref_mut.ensures.value

pub returns-clause-told : goal.returns-clause-told
returns-clause-told c = c.place_jsx_node.ensures.told ∙ ap (λ x. spanned c.args.at (told_jsx x)) c.deref_mut.ensures.value
