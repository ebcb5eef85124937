use Rattle.std.proofs.Common.{refl, ◌∙◌, ap}
use Rattle.jsx_tree.specs.Kinds.{Getter, function, node, none, part}
use Rattle.jsx_tree.specs.View.{view_key}
use Rattle.jsx_operand.specs.Bodies.{view_body}
use Rattle.jsx_operand.proofs.Places.{spans_from}
use Rattle.jsx_operand.proofs.Placing.{placed_as}
use Rattle.jsx_operand.proofs.Steps.{passed}
use Rattle.jsx_function.specs.Methods.{holder_at, owner_at}
use Rattle.jsx_function.proofs.Keyed.{getter_only, no_getter}
use Rattle.jsx_function.proofs.PlacedMembers.{getter_placed}
use Rattle.jsx_function.proofs.grammar.Within.getter.Goals as goal

pub returns-in_err-body-clause-refused : goal.returns-in_err-body-clause-refused
returns-in_err-body-clause-refused g c = passed _ c.in_err-body.ensures.refused c.from_residual.ensures.1 (λ n. no_getter (holder_at c.args.home) c.args.key c.constructs.ensures n)

pub returns-clause-read : goal.returns-clause-read
returns-clause-read g c =
    getter_only (holder_at c.args.home) c.args.key c.in_ok-body.body c.constructs.ensures c.in_ok-body.ensures.read
    (c.in_ok-getter.ensures.view (owner_at c.args.home) ∙ ap (λ h. node (function (Getter h)) (part (view_key c.args.key) (part (view_body c.in_ok-body.body) none))) c.placement.ensures)

pub returns-clause-placed : goal.returns-clause-placed
returns-clause-placed g c = record {
  on = λ a b words begins l.
      placed_as c.in_ok-getter.ensures.told (c.in_ok-getter.ensures.view (owner_at c.args.home) ∙ ap (λ h. node (function (Getter h)) (part (view_key c.args.key) (part (view_body c.in_ok-body.body) none))) c.placement.ensures)
      (getter_placed (holder_at c.args.home) words l c.in_ok-body.ensures.placed (spans_from c.span_to-span.ensures refl begins refl));
}
