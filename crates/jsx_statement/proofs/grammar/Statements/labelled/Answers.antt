use Rattle.std.proofs.Common.{[], ◌∷◌, refl, sym, ◌∙◌, ap}
use Rattle.jsx_base.specs.Token.{IdentifierName}
use Rattle.jsx_tree.specs.Kinds.{Label, statement, leaf, node, none, part}
use Rattle.jsx_tree.specs.Told.{told_node, told_stmt, told_text}
use Rattle.jsx_tree.specs.View.{text_of, view_stmt}
use Rattle.jsx_declaration.specs.Labels.{label_text}
use Rattle.jsx_statement.proofs.Labels.{label_built, no_label_body, taken_label}
use Rattle.jsx_operand.proofs.Placing.{placed_as}
use Rattle.jsx_operand.proofs.Places.{spans_from}
use Rattle.jsx_function.proofs.Inside.{passed_as}
use Rattle.jsx_statement.proofs.PlacedNodes.{label_placed}
use Rattle.jsx_statement.proofs.grammar.Statements.labelled.Goals as goal

pub returns-then-has_label-clause-refused : goal.returns-then-has_label-clause-refused
returns-then-has_label-clause-refused g c = record { bars = λ _ _ _. taken_label (sym c.has_label.ensures ∙ c.if-has_label.true) }

pub returns-in_err-body-clause-refused : goal.returns-in_err-body-clause-refused
returns-in_err-body-clause-refused g c = passed_as _ c.of_label.ensures.levels c.in_err-body.ensures.refused c.from_residual.ensures.1 (λ b. no_label_body c.is_before_loop-on_loop.result c.is_before_loop-on_loop.ensures c.of_label.ensures.around b)

pub returns-clause-read : goal.returns-clause-read
returns-clause-read g c = label_built c.is_before_loop-on_loop.result c.is_before_loop-on_loop.ensures c.of_label.ensures.around (sym c.has_label.ensures ∙ c.if-has_label.false) c.in_ok-body.ensures.read (c.in_ok-label_statement.ensures.view ∙ ap (λ a. node (statement Label) (part (leaf IdentifierName (text_of a)) (part (view_stmt c.in_ok-body.body.value) none))) c.ident.ensures)

pub returns-clause-placed : goal.returns-clause-placed
returns-clause-placed g c = record {
  on = λ w k at. placed_as (c.in_ok-label_statement.ensures.told ∙ ap (λ a. told_node c.span_to-span.result (told_text a ∷ told_stmt c.in_ok-body.body.value ∷ [])) c.ident.ensures)
      (c.in_ok-label_statement.ensures.view ∙ ap (λ a. node (statement Label) (part (leaf IdentifierName (text_of a)) (part (view_stmt c.in_ok-body.body.value) none))) c.ident.ensures)
      (label_placed {a = label_text c.args.label} k at c.in_ok-body.ensures.placed (spans_from c.span_to-span.ensures refl at refl));
}
