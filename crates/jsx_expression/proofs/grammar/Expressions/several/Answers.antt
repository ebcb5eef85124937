use Rattle.std.proofs.Common.{arith, ◌∷◌, [], refl, sym, ◌∙◌, ap, subst}
use Rattle.jsx_tree.specs.Kinds.{Parenthesized, Seq, expression, list, node, none, part}
use Rattle.jsx_tree.specs.Told.{told_list, told_node}
use Rattle.jsx_token.specs.Here.{left}
use Rattle.jsx_token.specs.Places.{end_of, next_of}
use Rattle.jsx_make.specs.NodeSpans.{expr_at}
use Rattle.jsx_operand.specs.Spans.{Spans}
use Rattle.jsx_operand.proofs.Places.{spans_from}
use Rattle.jsx_operand.proofs.Placing.{placed_as, placed_to}
use Rattle.jsx_operand.proofs.Steps.{passed, passed_plain}
use Rattle.jsx_operand.proofs.Values.{sign_ended}
use Rattle.jsx_expression.proofs.ArrowEnds.{moves_of}
use Rattle.jsx_expression.proofs.ArrowOpenings.{arrow_guard, arrow_settles, covers_unread, guard_kept, moves_to, no_arrow_at, paren_ended, paren_opened, paren_settles, paren_unread, rest_unread, sequence_read, trails_unread, turned_opened, turned_unread, unclosed, unturned}
use Rattle.jsx_expression.proofs.PlacedParentheses.{paren_placed}
use Rattle.jsx_expression.proofs.PlacedArrows.{as_told, takes_to}
use Rattle.jsx_expression.proofs.grammar.Expressions.several.Goals as goal

pub returns-in_err-group-clause-refused : goal.returns-in_err-group-clause-refused
returns-in_err-group-clause-refused g c = passed _ c.in_err-group.ensures.refused c.from_residual.ensures.1 (λ n. record { no = n.no })

pub returns-in_err-expect-clause-refused : goal.returns-in_err-expect-clause-refused
returns-in_err-expect-clause-refused g c = passed _ c.in_err-expect.ensures.refused c.from_residual-in_err-expect.ensures.1 (λ b. record { no = λ w z i m. unclosed (c.in_ok-group.ensures.read.on w z i m) b })

-- before `=>`
pub returns-in_err-params-clause-refused : goal.returns-in_err-params-clause-refused
returns-in_err-params-clause-refused g c = passed_plain _ c.in_err-params.ensures.refused c.from_residual-in_err-params.ensures.1
    (λ f. record { no = λ w z i m. unturned (c.in_ok-group.ensures.read.on w z i m) (moves_to c.is_before_arrow.ensures.stays (moves_of c.in_ok-expect.ensures.read)) (arrow_guard c.is_before_arrow.ensures.stays (sign_ended c.in_ok-expect.ensures.read.past) c.is_before_arrow.ensures.ahead c.if-is_before_arrow.true) f })

pub returns-in_err-arrow-clause-refused : goal.returns-in_err-arrow-clause-refused
returns-in_err-arrow-clause-refused g c = passed _ c.in_err-arrow.ensures.refused c.from_residual-in_err-arrow.ensures.1
    (λ n. record { no = λ w z i m. turned_unread (c.in_ok-group.ensures.read.on w z i m) (moves_to c.is_before_arrow.ensures.stays (moves_of c.in_ok-expect.ensures.read)) (arrow_guard c.is_before_arrow.ensures.stays (sign_ended c.in_ok-expect.ensures.read.past) c.is_before_arrow.ensures.ahead c.if-is_before_arrow.true) c.in_ok-params.ensures.read n })

pub returns-then-is_before_arrow-clause-read : goal.returns-then-is_before_arrow-clause-read
returns-then-is_before_arrow-clause-read g c = record {
  on = λ w z i m. turned_opened (c.in_ok-group.ensures.read.on w z i m) (moves_to c.is_before_arrow.ensures.stays (moves_of c.in_ok-expect.ensures.read)) (arrow_guard c.is_before_arrow.ensures.stays (sign_ended c.in_ok-expect.ensures.read.past) c.is_before_arrow.ensures.ahead c.if-is_before_arrow.true) c.in_ok-params.ensures.read c.in_ok-arrow.ensures.read;
}

pub returns-then-is_before_arrow-clause-placed : goal.returns-then-is_before_arrow-clause-placed
returns-then-is_before_arrow-clause-placed g c = record {
  on = λ w a z sign begins s l comma. c.in_ok-arrow.ensures.placed.on w a sign begins
      (as_told c.in_ok-params.ensures.told ((c.in_ok-group.ensures.placed.on a z l comma).params _ _ c.in_ok-params.ensures.read (takes_to c.is_before_arrow.ensures.stays c.in_ok-expect.ensures.takes)));
}

pub returns-then-is_before_arrow-clause-shorter : goal.returns-then-is_before_arrow-clause-shorter
returns-then-is_before_arrow-clause-shorter g c = omega (arith, c.in_ok-group.ensures.within, c.in_ok-expect.ensures.shorter, ap left c.is_before_arrow.ensures.stays, c.in_ok-arrow.ensures.shorter)

pub returns-then-is_before_arrow-clause-settles : goal.returns-then-is_before_arrow-clause-settles
returns-then-is_before_arrow-clause-settles g c = arrow_settles c.in_ok-arrow.ensures.read

-- an expression in parentheses
pub returns-then-trails-clause-refused : goal.returns-then-trails-clause-refused
returns-then-trails-clause-refused g c = record {
  bars = λ _ _ _. record { no = λ w z i m. paren_unread (c.in_ok-group.ensures.read.on w z i m) (trails_unread c.in_ok-group.group c.if-trails.true) (moves_to c.is_before_arrow.ensures.stays (moves_of c.in_ok-expect.ensures.read)) (no_arrow_at c.is_before_arrow.ensures.stays c.is_before_arrow.ensures.ahead c.if-is_before_arrow.false) };
}

pub returns-then-is_some-clause-refused : goal.returns-then-is_some-clause-refused
returns-then-is_some-clause-refused g c = record {
  bars = λ _ _ _. record { no = λ w z i m. paren_unread (c.in_ok-group.ensures.read.on w z i m) (rest_unread c.in_ok-group.group (sym c.is_some.ensures ∙ c.if-is_some.true)) (moves_to c.is_before_arrow.ensures.stays (moves_of c.in_ok-expect.ensures.read)) (no_arrow_at c.is_before_arrow.ensures.stays c.is_before_arrow.ensures.ahead c.if-is_before_arrow.false) };
}

pub returns-in_err-all-clause-refused : goal.returns-in_err-all-clause-refused
returns-in_err-all-clause-refused g c = passed_plain _ c.in_err-all.ensures.refused c.from_residual-in_err-all.ensures.1
    (λ h. record { no = λ w z i m. paren_unread (c.in_ok-group.ensures.read.on w z i m) (covers_unread c.in_ok-group.group h) (moves_to c.is_before_arrow.ensures.stays (moves_of c.in_ok-expect.ensures.read)) (no_arrow_at c.is_before_arrow.ensures.stays c.is_before_arrow.ensures.ahead c.if-is_before_arrow.false) })

pub returns-clause-read : goal.returns-clause-read
returns-clause-read g c = record {
  on = λ w z i m. paren_opened (c.in_ok-group.ensures.read.on w z i m) (sequence_read c.in_ok-group.group c.in_ok-all.ensures.read.are (sym c.is_some.ensures ∙ c.if-is_some.false) c.if-trails.false) (moves_to c.is_before_arrow.ensures.stays (moves_of c.in_ok-expect.ensures.read))
      (guard_kept c.is_before_arrow.ensures.stays (sign_ended c.in_ok-expect.ensures.read.past) c.is_before_arrow.ensures.ahead c.if-is_before_arrow.false) (no_arrow_at c.is_before_arrow.ensures.stays c.is_before_arrow.ensures.ahead c.if-is_before_arrow.false)
      (c.in_ok-paren.ensures.view ∙ ap (λ t. node (expression Parenthesized) (part t none)) (c.in_ok-inner.ensures.view ∙ ap (λ ts. node (expression Seq) (part (list ts) none)) c.in_ok-all.ensures.read.views));
}

pub returns-clause-placed : goal.returns-clause-placed
returns-clause-placed g c = record {
  on = λ w a z sign begins s l comma. placed_to c.is_before_arrow.ensures.stays (placed_as (c.in_ok-paren.ensures.told ∙ (c.in_ok-inner.ensures.told ∙ ap (λ ds. told_node c.span_to-span.result (told_list ds ∷ [])) c.in_ok-all.ensures.told))
      (c.in_ok-paren.ensures.view ∙ ap (λ t. node (expression Parenthesized) (part t none)) (c.in_ok-inner.ensures.view ∙ ap (λ ts. node (expression Seq) (part (list ts) none)) c.in_ok-all.ensures.read.views))
      (paren_placed sign ((c.in_ok-group.ensures.placed.on a z l comma).sequence (sequence_read c.in_ok-group.group c.in_ok-all.ensures.read.are (sym c.is_some.ensures ∙ c.if-is_some.false) c.if-trails.false) _
      (spans_from c.span_to-span.ensures refl (c.start_of-begin.ensures.on _ _ (subst (λ e. Spans (expr_at e) (next_of a) (end_of z)) (sym c.deref.ensures) s)) refl)) c.in_ok-expect.ensures.takes));
}

pub returns-clause-settles : goal.returns-clause-settles
returns-clause-settles g c = paren_settles c.is_before_arrow.ensures.stays (sign_ended c.in_ok-expect.ensures.read.past)

pub returns-clause-ended : goal.returns-clause-ended
returns-clause-ended g c = paren_ended c.is_before_arrow.ensures.stays (sign_ended c.in_ok-expect.ensures.read.past)

pub returns-clause-shorter : goal.returns-clause-shorter
returns-clause-shorter g c = omega (arith, c.in_ok-group.ensures.within, c.in_ok-expect.ensures.shorter, ap left c.is_before_arrow.ensures.stays)
