use Rattle.std.proofs.Common.{◌∙◌, ap}
use Rattle.jsx_tree.specs.Told.{told_expr}
use Rattle.jsx_tree.specs.View.{view_expr}
use Rattle.jsx_make.specs.NodeSpans.{expr_at}
use Rattle.jsx_operand.specs.Spans.{as_argument}
use Rattle.jsx_operand.proofs.argument.place_argument.Goals as goal

pub returns-clause-view : goal.returns-clause-view
returns-clause-view c = c.place_inner.ensures.view ∙ ap view_expr c.deref_mut.ensures.value

pub returns-clause-told : goal.returns-clause-told
returns-clause-told c = c.place_inner.ensures.told ∙ ap (λ x. as_argument (view_expr x) (expr_at x) (told_expr x)) c.deref_mut.ensures.value
