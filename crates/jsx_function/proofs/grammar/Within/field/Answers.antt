use Rattle.std.proofs.Common.{refl, ◌∙◌, ap}
use Rattle.jsx_tree.specs.Kinds.{Field, function, node, none, part}
use Rattle.jsx_tree.specs.View.{optional_of, view_expr, view_key}
use Rattle.jsx_operand.proofs.Places.{spans_from}
use Rattle.jsx_operand.proofs.Placing.{placed_as}
use Rattle.jsx_operand.proofs.Steps.{passed}
use Rattle.jsx_function.specs.Methods.{holder_at, owner_at}
use Rattle.jsx_function.proofs.ClassElements.{classed_holder}
use Rattle.jsx_function.proofs.Keyed.{field_only, no_field}
use Rattle.jsx_function.proofs.PlacedMembers.{field_placed}
use Rattle.jsx_function.proofs.grammar.Within.field.Goals as goal

pub returns-in_err-value-clause-refused : goal.returns-in_err-value-clause-refused
returns-in_err-value-clause-refused g c = passed _ c.in_err-value.ensures.refused c.from_residual.ensures.1 (λ n. no_field (holder_at c.args.home) c.args.key n)

pub returns-clause-read : goal.returns-clause-read
returns-clause-read g c =
    field_only (holder_at c.args.home) c.args.key c.in_ok-value.value (classed_holder c.args.home c.requires.classed) c.in_ok-value.ensures.read
    (c.in_ok-field.ensures.view (owner_at c.args.home) ∙ ap (λ h. node (function (Field h)) (part (view_key c.args.key) (part (optional_of view_expr c.in_ok-value.value) none))) c.placement.ensures)

pub returns-clause-placed : goal.returns-clause-placed
returns-clause-placed g c = record {
  on = λ a b words begins l.
      placed_as c.in_ok-field.ensures.told (c.in_ok-field.ensures.view (owner_at c.args.home) ∙ ap (λ h. node (function (Field h)) (part (view_key c.args.key) (part (optional_of view_expr c.in_ok-value.value) none))) c.placement.ensures)
      (field_placed (holder_at c.args.home) words l c.in_ok-value.ensures.placed (spans_from c.span_to.ensures refl begins refl));
}
