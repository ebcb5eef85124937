use Rattle.std.proofs.Common.{[], ◌∷◌, refl, ◌∙◌, ap}
use Rattle.jsx_tree.specs.Kinds.{FunctionExpr, function, node, part}
use Rattle.jsx_tree.specs.Spans.{spans, tale, tells}
use Rattle.jsx_operand.proofs.Places.{spans_from}
use Rattle.jsx_operand.proofs.Placing.{placed_as}
use Rattle.jsx_operand.proofs.Steps.{passed}
use Rattle.jsx_function.specs.Functions.{parts_of, told_parts}
use Rattle.jsx_function.proofs.Functions.{function_built, function_row, no_function}
use Rattle.jsx_function.proofs.grammar.Within.function_expression.Goals as goal

pub returns-in_err-read-clause-refused : goal.returns-in_err-read-clause-refused
returns-in_err-read-clause-refused g c = passed _ c.in_err-read.ensures.refused c.from_residual.ensures.1 (λ n. no_function n)

pub returns-clause-read : goal.returns-clause-read
returns-clause-read g c = function_built c.in_ok-read.ensures.read c.in_ok-read.ensures.plain (c.in_ok-function_expression.ensures.view ∙ ap (λ n. node (function FunctionExpr) (part n (parts_of c.in_ok-read.read.code))) c.in_ok-name.ensures.view)

pub returns-clause-placed : goal.returns-clause-placed
returns-clause-placed g c = record {
  on = λ w sign begins. placed_as (c.in_ok-function_expression.ensures.told ∙ ap (λ n. tells (spans c.span_to-span.result ∷ []) (tale n (told_parts c.in_ok-read.read.code))) c.in_ok-name.ensures.told)
      (c.in_ok-function_expression.ensures.view ∙ ap (λ n. node (function FunctionExpr) (part n (parts_of c.in_ok-read.read.code))) c.in_ok-name.ensures.view)
      (function_row sign c.in_ok-read.ensures.placed (spans_from c.span_to-span.ensures refl (c.last_place-lo.ensures ∙ begins) refl));
}
