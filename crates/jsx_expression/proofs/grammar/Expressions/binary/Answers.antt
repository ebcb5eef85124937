use Rattle.std.proofs.Common.{◌≡◌, nat_le, true, refl, sym, ◌∙◌, ap, subst}
use Rattle.jsx_make.specs.NodeSpans.{expr_at}
use Rattle.jsx_token.specs.Growths.{is_level}
use Rattle.jsx_tree.specs.Grammar.{right_of}
use Rattle.jsx_tree.specs.Kinds.{BinaryOp, Nullish, Or, And, BitOr, BitXor, BitAnd, Equal, Unequal, StrictEqual, StrictUnequal, ShiftLeft, ShiftRight, ShiftOut, Add, Subtract, Multiply, Divide, Remainder, Exponentiate}
use Rattle.jsx_tree.specs.ViewOperators.{binary_of}
use Rattle.jsx_operand.specs.Spans.{Spans}
use Rattle.jsx_token.specs.Places.{Takes, end_of, next_of}
use Rattle.jsx_operand.proofs.Operators.{binary_built, binary_none, mark_is, right_is_level}
use Rattle.jsx_operand.proofs.Places.{spans_from}
use Rattle.jsx_operand.proofs.Steps.{passed}
use Rattle.jsx_operand.proofs.Placing.{placed_as}
use Rattle.jsx_operand.proofs.PlacedExpressions.{binary_row}
use Rattle.jsx_expression.proofs.grammar.Expressions.binary.Goals as goal

pub inner-requires-clause-ranked : goal.inner-requires-clause-ranked
inner-requires-clause-ranked g c = subst (λ n. is_level n ≡ true) (sym c.right_level.ensures) (right_is_level (binary_of c.args.operator))

-- what stands at the right of an operator binds more tightly than a conditional expression
right_high : (o : BinaryOp) → nat_le 3 (right_of o) ≡ true
right_high Nullish = refl
right_high Or = refl
right_high And = refl
right_high BitOr = refl
right_high BitXor = refl
right_high BitAnd = refl
right_high Equal = refl
right_high Unequal = refl
right_high StrictEqual = refl
right_high StrictUnequal = refl
right_high ShiftLeft = refl
right_high ShiftRight = refl
right_high ShiftOut = refl
right_high Add = refl
right_high Subtract = refl
right_high Multiply = refl
right_high Divide = refl
right_high Remainder = refl
right_high Exponentiate = refl
right_high _ = refl

pub returns-in_err-right-clause-refused : goal.returns-in_err-right-clause-refused
returns-in_err-right-clause-refused g c = passed _ c.in_err-right.ensures.refused c.from_residual.ensures.1 (λ b. binary_none (binary_of c.args.operator) c.right_level.ensures b)

pub returns-clause-read : goal.returns-clause-read
returns-clause-read g c = binary_built (binary_of c.args.operator) c.right_level.ensures c.in_ok-right.ensures.read refl c.in_ok-binary.ensures.view

pub returns-clause-ended : goal.returns-clause-ended
returns-clause-ended g c = c.in_ok-right.ensures.settles.on (ap (nat_le 3) c.right_level.ensures ∙ right_high (binary_of c.args.operator))

pub returns-clause-placed : goal.returns-clause-placed
returns-clause-placed g c = record {
  on = λ w z s l sign.
      placed_as c.in_ok-binary.ensures.told c.in_ok-binary.ensures.view (binary_row (binary_of c.args.operator) l (subst (λ m. Takes m z c.args.lexer.now) (mark_is (binary_of c.args.operator)) sign) c.in_ok-right.ensures.placed
      (spans_from c.span_to-span.ensures refl (c.start_of.ensures.on _ _ (subst (λ e. Spans (expr_at e) (next_of w) (end_of z)) (sym c.deref.ensures) s)) refl));
}
