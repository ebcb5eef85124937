use Rattle.std.proofs.Common.{refl, ◌∙◌, ap}
use Rattle.jsx_tree.specs.Kinds.{Method, function, node, part}
use Rattle.jsx_tree.specs.View.{view_key}
use Rattle.jsx_operand.proofs.Places.{spans_from}
use Rattle.jsx_operand.proofs.Placing.{placed_as}
use Rattle.jsx_operand.proofs.Steps.{passed}
use Rattle.jsx_function.specs.Functions.{parts_of}
use Rattle.jsx_function.specs.Methods.{holder_at, owner_at}
use Rattle.jsx_function.proofs.Keyed.{method_only, no_method}
use Rattle.jsx_function.proofs.PlacedMembers.{method_placed}
use Rattle.jsx_function.proofs.grammar.Within.method.Goals as goal

pub returns-in_err-params-clause-refused : goal.returns-in_err-params-clause-refused
returns-in_err-params-clause-refused g c = passed _ c.in_err-params.ensures.refused c.from_residual.ensures.1 (λ n. no_method (holder_at c.args.home) c.args.key c.constructs.ensures n)

pub returns-clause-read : goal.returns-clause-read
returns-clause-read g c =
    method_only (holder_at c.args.home) c.args.key c.constructs.ensures c.in_ok-params.ensures.read c.in_ok-params.ensures.plain
    (c.in_ok-method.ensures.view (owner_at c.args.home) ∙ ap (λ h. node (function (Method h)) (part (view_key c.args.key) (parts_of c.in_ok-params.field-0))) c.placement.ensures)

pub returns-clause-placed : goal.returns-clause-placed
returns-clause-placed g c = record {
  on = λ a b words begins l.
      placed_as c.in_ok-method.ensures.told (c.in_ok-method.ensures.view (owner_at c.args.home) ∙ ap (λ h. node (function (Method h)) (part (view_key c.args.key) (parts_of c.in_ok-params.field-0))) c.placement.ensures)
      (method_placed (holder_at c.args.home) words l c.in_ok-params.ensures.placed (spans_from c.span_to-span.ensures refl begins refl));
}
