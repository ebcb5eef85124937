use Rattle.std.proofs.Common.{arith, refl, sym, ◌∙◌, ap}
use Rattle.jsx_tree.specs.Kinds.{Parenthesized, expression, node, none, part}
use Rattle.jsx_tree.specs.Told.{told_expr}
use Rattle.jsx_tree.specs.View.{view_expr}
use Rattle.jsx_token.specs.Here.{left, place_of}
use Rattle.jsx_token.specs.Places.{next_of}
use Rattle.jsx_operand.proofs.Places.{spans_from}
use Rattle.jsx_operand.proofs.Placing.{placed_as, placed_to, takes_from}
use Rattle.jsx_operand.proofs.Steps.{passed, passed_plain}
use Rattle.jsx_operand.proofs.Values.{sign_ended}
use Rattle.jsx_expression.proofs.ArrowEnds.{moves_of}
use Rattle.jsx_expression.proofs.ArrowOpenings.{arrow_guard, arrow_opened, arrow_settles, arrow_unread, barred_from, guard_kept, inside_of, moves_from, moves_to, no_arrow_at, no_cover_from, no_paren, no_row_from, not_rest, not_shut, nothing_inside, params_unread, paren_ended, paren_opened, paren_settles, paren_unread, row_from, unclosed}
use Rattle.jsx_expression.proofs.PlacedParentheses.{paren_placed}
use Rattle.jsx_expression.proofs.Parentheses.{no_expression, one_contents}
use Rattle.jsx_expression.proofs.PlacedArrows.{cover_from, front_from, takes_to}
use Rattle.jsx_expression.proofs.grammar.Expressions.parenthesized.Goals as goal

-- parameters, where nothing else can stand
pub returns-in_err-params-clause-refused : goal.returns-in_err-params-clause-refused
returns-in_err-params-clause-refused g c = passed _ c.in_err-params.ensures.refused c.from_residual.ensures.1
    (λ n. params_unread (no_row_from c.is_before_parameters.ensures.stays n) (no_paren (no_expression (sym c.is_before_parameters.ensures.ahead ∙ c.if-is_before_parameters.true))))

pub returns-in_err-arrow-clause-refused : goal.returns-in_err-arrow-clause-refused
returns-in_err-arrow-clause-refused g c = passed _ c.in_err-arrow.ensures.refused c.from_residual-in_err-arrow.ensures.1
    (λ n. arrow_unread (row_from c.is_before_parameters.ensures.stays c.in_ok-params.ensures.read) (no_paren (no_expression (sym c.is_before_parameters.ensures.ahead ∙ c.if-is_before_parameters.true))) n)

pub returns-then-is_before_parameters-clause-read : goal.returns-then-is_before_parameters-clause-read
returns-then-is_before_parameters-clause-read g c =
    arrow_opened (row_from c.is_before_parameters.ensures.stays c.in_ok-params.ensures.read) (no_paren (no_expression (sym c.is_before_parameters.ensures.ahead ∙ c.if-is_before_parameters.true))) c.in_ok-arrow.ensures.read

pub returns-then-is_before_parameters-clause-span : goal.returns-then-is_before_parameters-clause-span
returns-then-is_before_parameters-clause-span g c = spans_from c.in_ok-arrow.ensures.span refl c.last_place-lo.ensures refl

pub returns-then-is_before_parameters-clause-placed : goal.returns-then-is_before_parameters-clause-placed
returns-then-is_before_parameters-clause-placed g c = record {
  on = λ w sign begins. c.in_ok-arrow.ensures.placed.on w _ sign (c.last_place-lo.ensures ∙ begins) (front_from c.is_before_parameters.ensures.stays c.in_ok-params.ensures.placed);
}

pub returns-then-is_before_parameters-clause-shorter : goal.returns-then-is_before_parameters-clause-shorter
returns-then-is_before_parameters-clause-shorter g c = omega (arith, ap left c.is_before_parameters.ensures.stays, c.in_ok-params.ensures.shorter, c.in_ok-arrow.ensures.shorter)

pub returns-then-is_before_parameters-clause-settles : goal.returns-then-is_before_parameters-clause-settles
returns-then-is_before_parameters-clause-settles g c = arrow_settles c.in_ok-arrow.ensures.read

-- the first of several
pub returns-in_err-first-clause-refused : goal.returns-in_err-first-clause-refused
returns-in_err-first-clause-refused g c = passed _ c.in_err-first.ensures.refused c.from_residual-in_err-first.ensures.1
    (λ n. nothing_inside (no_cover_from c.is_before_parameters.ensures.stays n) (not_shut (sym c.is_before_parameters.ensures.ahead ∙ c.if-is_before_parameters.false)) (not_rest (sym c.is_before_parameters.ensures.ahead ∙ c.if-is_before_parameters.false)))

pub returns-in_err-several-clause-refused : goal.returns-in_err-several-clause-refused
returns-in_err-several-clause-refused g c = passed _ c.in_err-several.ensures.refused c.from_residual-in_err-several.ensures.1
    (λ n. n.no _ _ (inside_of (ap place_of c.is_before_parameters.ensures.stays) (sym c.is_before_parameters.ensures.ahead ∙ c.if-is_before_parameters.false) c.in_ok-first.ensures.read c.in_ok-first.ensures.ended) (record { is = c.take.ensures.taken c.if-take.true; found = refl }))

pub returns-then-take-clause-read : goal.returns-then-take-clause-read
returns-then-take-clause-read g c =
    c.in_ok-several.ensures.read.on _ _ (inside_of (ap place_of c.is_before_parameters.ensures.stays) (sym c.is_before_parameters.ensures.ahead ∙ c.if-is_before_parameters.false) c.in_ok-first.ensures.read c.in_ok-first.ensures.ended) (record { is = c.take.ensures.taken c.if-take.true; found = refl })

pub returns-then-take-clause-span : goal.returns-then-take-clause-span
returns-then-take-clause-span g c = spans_from c.in_ok-several.ensures.span refl c.last_place-lo.ensures refl

pub returns-then-take-clause-placed : goal.returns-then-take-clause-placed
returns-then-take-clause-placed g c = record {
  on = λ w sign begins. c.in_ok-several.ensures.placed.on w _ _ sign (c.last_place-lo.ensures ∙ begins) (spans_from c.in_ok-first.ensures.span refl (ap next_of c.is_before_parameters.ensures.stays) refl) (cover_from c.is_before_parameters.ensures.stays c.in_ok-first.ensures.placed) (c.take.ensures.takes c.if-take.true);
}

pub returns-then-take-clause-shorter : goal.returns-then-take-clause-shorter
returns-then-take-clause-shorter g c = omega (arith, ap left c.is_before_parameters.ensures.stays, c.in_ok-first.ensures.shorter, c.take.ensures.shorter c.if-take.true, c.in_ok-several.ensures.shorter)

-- one alone
pub returns-in_err-expect-clause-refused : goal.returns-in_err-expect-clause-refused
returns-in_err-expect-clause-refused g c = passed _ c.in_err-expect.ensures.refused c.from_residual-in_err-expect.ensures.1
    (λ b. unclosed (one_contents (inside_of (ap place_of c.is_before_parameters.ensures.stays) (sym c.is_before_parameters.ensures.ahead ∙ c.if-is_before_parameters.false) c.in_ok-first.ensures.read c.in_ok-first.ensures.ended) (record { is = c.take.ensures.missing c.if-take.false })) (barred_from (c.take.ensures.stays c.if-take.false) b))

pub returns-in_err-arrow_of_one-clause-refused : goal.returns-in_err-arrow_of_one-clause-refused
returns-in_err-arrow_of_one-clause-refused g c = passed _ c.in_err-arrow_of_one.ensures.refused c.from_residual-in_err-arrow_of_one.ensures.1
    (λ n. n.no _ _ (inside_of (ap place_of c.is_before_parameters.ensures.stays) (sym c.is_before_parameters.ensures.ahead ∙ c.if-is_before_parameters.false) c.in_ok-first.ensures.read c.in_ok-first.ensures.ended)
    (moves_to c.is_before_arrow.ensures.stays (moves_from (c.take.ensures.stays c.if-take.false) (moves_of c.in_ok-expect.ensures.read))) (arrow_guard c.is_before_arrow.ensures.stays (sign_ended c.in_ok-expect.ensures.read.past) c.is_before_arrow.ensures.ahead c.if-is_before_arrow.true))

pub returns-then-is_before_arrow-clause-read : goal.returns-then-is_before_arrow-clause-read
returns-then-is_before_arrow-clause-read g c =
    c.in_ok-arrow_of_one.ensures.read.on _ _ (inside_of (ap place_of c.is_before_parameters.ensures.stays) (sym c.is_before_parameters.ensures.ahead ∙ c.if-is_before_parameters.false) c.in_ok-first.ensures.read c.in_ok-first.ensures.ended)
    (moves_to c.is_before_arrow.ensures.stays (moves_from (c.take.ensures.stays c.if-take.false) (moves_of c.in_ok-expect.ensures.read))) (arrow_guard c.is_before_arrow.ensures.stays (sign_ended c.in_ok-expect.ensures.read.past) c.is_before_arrow.ensures.ahead c.if-is_before_arrow.true)

pub returns-then-is_before_arrow-clause-span : goal.returns-then-is_before_arrow-clause-span
returns-then-is_before_arrow-clause-span g c = spans_from c.in_ok-arrow_of_one.ensures.span refl c.last_place-lo.ensures refl

pub returns-then-is_before_arrow-clause-placed : goal.returns-then-is_before_arrow-clause-placed
returns-then-is_before_arrow-clause-placed g c = record {
  on = λ w sign begins. c.in_ok-arrow_of_one.ensures.placed.on w _ _ sign (c.last_place-lo.ensures ∙ begins) (cover_from c.is_before_parameters.ensures.stays c.in_ok-first.ensures.placed) (takes_to c.is_before_arrow.ensures.stays (takes_from (c.take.ensures.stays c.if-take.false) c.in_ok-expect.ensures.takes));
}

pub returns-then-is_before_arrow-clause-shorter : goal.returns-then-is_before_arrow-clause-shorter
returns-then-is_before_arrow-clause-shorter g c = omega (arith, ap left c.is_before_parameters.ensures.stays, c.in_ok-first.ensures.shorter, ap left (c.take.ensures.stays c.if-take.false), c.in_ok-expect.ensures.shorter, ap left c.is_before_arrow.ensures.stays, c.in_ok-arrow_of_one.ensures.shorter)

-- an expression in parentheses
pub returns-in_err-inner-clause-refused : goal.returns-in_err-inner-clause-refused
returns-in_err-inner-clause-refused g c = passed_plain _ c.in_err-inner.ensures.refused c.from_residual-in_err-inner.ensures.1
    (λ h. paren_unread (one_contents (inside_of (ap place_of c.is_before_parameters.ensures.stays) (sym c.is_before_parameters.ensures.ahead ∙ c.if-is_before_parameters.false) c.in_ok-first.ensures.read c.in_ok-first.ensures.ended) (record { is = c.take.ensures.missing c.if-take.false })) h
    (moves_to c.is_before_arrow.ensures.stays (moves_from (c.take.ensures.stays c.if-take.false) (moves_of c.in_ok-expect.ensures.read))) (no_arrow_at c.is_before_arrow.ensures.stays c.is_before_arrow.ensures.ahead c.if-is_before_arrow.false))

pub returns-clause-read : goal.returns-clause-read
returns-clause-read g c =
    paren_opened (one_contents (inside_of (ap place_of c.is_before_parameters.ensures.stays) (sym c.is_before_parameters.ensures.ahead ∙ c.if-is_before_parameters.false) c.in_ok-first.ensures.read c.in_ok-first.ensures.ended) (record { is = c.take.ensures.missing c.if-take.false })) c.in_ok-inner.ensures.is
    (moves_to c.is_before_arrow.ensures.stays (moves_from (c.take.ensures.stays c.if-take.false) (moves_of c.in_ok-expect.ensures.read))) (guard_kept c.is_before_arrow.ensures.stays (sign_ended c.in_ok-expect.ensures.read.past) c.is_before_arrow.ensures.ahead c.if-is_before_arrow.false)
    (no_arrow_at c.is_before_arrow.ensures.stays c.is_before_arrow.ensures.ahead c.if-is_before_arrow.false)
    (c.in_ok-paren.ensures.view ∙ ap (λ e. node (expression Parenthesized) (part (view_expr e.value) none)) c.in_ok-inner.ensures.expr)

pub returns-clause-placed : goal.returns-clause-placed
returns-clause-placed g c = record {
  on = λ w sign begins. placed_to c.is_before_arrow.ensures.stays (placed_as (c.in_ok-paren.ensures.told ∙ ap (λ e. told_expr e.value) c.in_ok-inner.ensures.expr)
      (c.in_ok-paren.ensures.view ∙ ap (λ e. node (expression Parenthesized) (part (view_expr e.value) none)) c.in_ok-inner.ensures.expr)
      (paren_placed sign ((cover_from c.is_before_parameters.ensures.stays c.in_ok-first.ensures.placed).expr c.in_ok-inner.ensures.is) (takes_from (c.take.ensures.stays c.if-take.false) c.in_ok-expect.ensures.takes)));
}

pub returns-clause-settles : goal.returns-clause-settles
returns-clause-settles g c = paren_settles c.is_before_arrow.ensures.stays (sign_ended c.in_ok-expect.ensures.read.past)

pub returns-clause-ended : goal.returns-clause-ended
returns-clause-ended g c = paren_ended c.is_before_arrow.ensures.stays (sign_ended c.in_ok-expect.ensures.read.past)

pub returns-clause-shorter : goal.returns-clause-shorter
returns-clause-shorter g c = omega (arith, ap left c.is_before_parameters.ensures.stays, c.in_ok-first.ensures.shorter, ap left (c.take.ensures.stays c.if-take.false), c.in_ok-expect.ensures.shorter, ap left c.is_before_arrow.ensures.stays)
