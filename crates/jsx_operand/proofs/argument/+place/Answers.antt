use Rattle.std.proofs.Common.{◌∙◌, ap, arith}
use Rattle.jsx_tree.specs.Told.{told_expr}
use Rattle.jsx_tree.specs.View.{view_expr}
use Rattle.jsx_operand.specs.Spans.{pairs_round, spanned}
use Rattle.jsx_operand.proofs.Spanning.{fewer_pairs}
use Rattle.jsx_operand.proofs.argument.+place.Goals as goal

pub place-place_node-requires : goal.place-place_node-requires
place-place_node-requires t c = omega (arith, ap (λ x. pairs_round (view_expr x)) c.deref_mut.ensures.value)

pub place-returns-clause-view : goal.place-returns-clause-view
place-returns-clause-view t c = c.place_node.ensures.view ∙ ap view_expr c.deref_mut.ensures.value

pub place-returns-clause-told : goal.place-returns-clause-told
place-returns-clause-told t c = c.place_node.ensures.told ∙ ap (λ x. spanned c.args.at (told_expr x)) c.deref_mut.ensures.value

pub place_node-place-requires : goal.place_node-place-requires
place_node-place-requires t c = omega (arith, fewer_pairs _ _ c.in-Paren.is, ap (λ b. pairs_round (view_expr b.value)) c.in-Paren.inner-is)
