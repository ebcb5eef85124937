use Rattle.std.proofs.Common.{refl, ◌∙◌, ap}
use Rattle.jsx_tree.specs.Kinds.{Setter, function, node, part}
use Rattle.jsx_tree.specs.View.{view_key}
use Rattle.jsx_operand.proofs.Places.{spans_from}
use Rattle.jsx_operand.proofs.Placing.{placed_as}
use Rattle.jsx_operand.proofs.Steps.{passed}
use Rattle.jsx_function.specs.Methods.{holder_at, owner_at, setter_parts}
use Rattle.jsx_function.proofs.Keyed.{no_setter, setter_only}
use Rattle.jsx_function.proofs.PlacedMembers.{setter_placed}
use Rattle.jsx_function.proofs.grammar.Within.setter.Goals as goal

pub returns-in_err-param-clause-refused : goal.returns-in_err-param-clause-refused
returns-in_err-param-clause-refused g c = passed _ c.in_err-param.ensures.refused c.from_residual.ensures.1 (λ n. no_setter (holder_at c.args.home) c.args.key c.constructs.ensures n)

pub returns-clause-read : goal.returns-clause-read
returns-clause-read g c =
    setter_only (holder_at c.args.home) c.args.key c.in_ok-param.field-0.body c.constructs.ensures c.in_ok-param.ensures.read c.in_ok-param.ensures.suits
    (c.in_ok-setter.ensures.view (owner_at c.args.home) ∙ ap (λ h. node (function (Setter h)) (part (view_key c.args.key) (setter_parts c.in_ok-param.field-0))) c.placement.ensures)

pub returns-clause-placed : goal.returns-clause-placed
returns-clause-placed g c = record {
  on = λ a b words begins l.
      placed_as c.in_ok-setter.ensures.told (c.in_ok-setter.ensures.view (owner_at c.args.home) ∙ ap (λ h. node (function (Setter h)) (part (view_key c.args.key) (setter_parts c.in_ok-param.field-0))) c.placement.ensures)
      (setter_placed (holder_at c.args.home) words l c.in_ok-param.ensures.placed (spans_from c.span_to-span.ensures refl begins refl));
}
