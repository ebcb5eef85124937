use Rattle.std.proofs.Common.{◌≡◌, true, arith, refl, sym, ◌∙◌, ap, subst}
use Rattle.jsx_tree.specs.Told.{told_expr}
use Rattle.jsx_tree.specs.View.{view_expr}
use Rattle.jsx_token.specs.Growths.{closed}
use Rattle.jsx_token.specs.Here.{place_of}
use Rattle.jsx_token.specs.Places.{end_of, next_of}
use Rattle.jsx_make.specs.NodeSpans.{expr_at}
use Rattle.jsx_operand.specs.Spans.{Spans}
use Rattle.jsx_operand.specs.Turning.{is_bound_name, is_literal}
use Rattle.jsx_operand.proofs.Places.{spans_from}
use Rattle.jsx_operand.proofs.Placing.{placed_to}
use Rattle.jsx_operand.proofs.Steps.{passed}
use Rattle.jsx_expression.specs.Covers.{unassigned, unlike}
use Rattle.jsx_expression.proofs.BareArrows.{named_operand, named_settled, off_line, unnamed_operand}
use Rattle.jsx_expression.proofs.Covers.{literal_high}
use Rattle.jsx_expression.proofs.CoverPlaces.{assigned_placed, bare_placed, cover_placed_to}
use Rattle.jsx_expression.proofs.CoverSteps.{settles_to}
use Rattle.jsx_function.proofs.Settled.{settled_span}
use Rattle.jsx_expression.proofs.Operands.{assigned_settles, literal_named, no_operand_at, operand_assigned, operand_at, operand_first, operand_high, operand_kept, operand_to, operand_unassigned, operand_unbegun, operand_unsettled}
use Rattle.jsx_expression.proofs.grammar.Expressions.operand.Goals as goal

pub returns-in_err-first-clause-refused : goal.returns-in_err-first-clause-refused
returns-in_err-first-clause-refused g c = passed _ c.in_err-first.ensures.refused c.from_residual.ensures.1 (λ n. operand_unbegun c.args.level c.requires.ranked n)

-- above the level of assignments
pub returns-then-not-first-clause-refused : goal.returns-then-not-first-clause-refused
returns-then-not-first-clause-refused g c = record { bars = λ _ _ _. operand_unsettled c.args.level c.requires.ranked (omega (arith, c.if-level-gt-ASSIGNMENT.true)) c.if-not-first.true c.in_ok-first.ensures.read }

pub returns-then-level-gt-ASSIGNMENT-clause-read : goal.returns-then-level-gt-ASSIGNMENT-clause-read
returns-then-level-gt-ASSIGNMENT-clause-read g c = operand_high c.args.level c.requires.ranked (omega (arith, c.if-level-gt-ASSIGNMENT.true)) c.if-not-first.false c.in_ok-first.ensures.read

-- a literal without `=`
pub returns-then-not-take-clause-read : goal.returns-then-not-take-clause-read
returns-then-not-take-clause-read g c =
    let l = ap (λ e. is_literal (view_expr e)) (sym c.deref.ensures) ∙ (sym c.is_literal.ensures ∙ c.if-is_literal.true) in
    operand_to (c.take.ensures.stays c.if-not-take.true)
    (operand_at c.args.level c.requires.ranked (omega (arith, c.if-level-gt-ASSIGNMENT.false)) (operand_first c.in_ok-first.ensures.read (unassigned (record { is = c.take.ensures.missing c.if-not-take.true })) (λ h. absurd (literal_named (view_expr c.in_ok-first.first.expr.value) l h))))

pub returns-then-not-take-clause-span : goal.returns-then-not-take-clause-span
returns-then-not-take-clause-span g c = spans_from c.in_ok-first.ensures.span refl refl (sym (ap end_of (c.take.ensures.stays c.if-not-take.true)))

pub returns-then-not-take-clause-placed : goal.returns-then-not-take-clause-placed
returns-then-not-take-clause-placed g c = cover_placed_to (c.take.ensures.stays c.if-not-take.true) c.in_ok-first.ensures.placed

pub returns-then-not-take-clause-ended : goal.returns-then-not-take-clause-ended
returns-then-not-take-clause-ended g c = subst (λ h. closed (place_of h) ≡ true) (sym (c.take.ensures.stays c.if-not-take.true)) c.in_ok-first.ensures.ended

pub returns-then-not-take-clause-settles : goal.returns-then-not-take-clause-settles
returns-then-not-take-clause-settles g c = settles_to (c.take.ensures.stays c.if-not-take.true) c.in_ok-first.ensures.settles

-- and with it
pub returns-in_err-expr-clause-refused : goal.returns-in_err-expr-clause-refused
returns-in_err-expr-clause-refused g c =
    let l = ap (λ e. is_literal (view_expr e)) (sym c.deref.ensures) ∙ (sym c.is_literal.ensures ∙ c.if-is_literal.true) in
    passed _ c.in_err-expr.ensures.refused c.from_residual-in_err-expr.ensures.1
    (λ n. no_operand_at c.args.level c.requires.ranked (omega (arith, c.if-level-gt-ASSIGNMENT.false)) (operand_unassigned c.in_ok-first.ensures.read l (c.in_ok-first.ensures.settles.on (literal_high _ l)) (record { is = c.take.ensures.taken c.if-not-take.false; found = refl }) n))

pub returns-then-is_literal-clause-read : goal.returns-then-is_literal-clause-read
returns-then-is_literal-clause-read g c =
    let l = ap (λ e. is_literal (view_expr e)) (sym c.deref.ensures) ∙ (sym c.is_literal.ensures ∙ c.if-is_literal.true) in
    operand_at c.args.level c.requires.ranked (omega (arith, c.if-level-gt-ASSIGNMENT.false))
    (operand_assigned c.in_ok-expr.expr c.settled.ensures.expr c.settled.ensures.is_expr c.settled.ensures.may_turn c.in_ok-first.ensures.read l (c.in_ok-first.ensures.settles.on (literal_high _ l)) (record { is = c.take.ensures.taken c.if-not-take.false; found = refl }) c.in_ok-expr.ensures.read c.in_ok-expr.ensures.ended)

pub returns-then-is_literal-clause-span : goal.returns-then-is_literal-clause-span
returns-then-is_literal-clause-span g c = settled_span c.settled.ensures.expr (c.in_ok-expr.ensures.span.on _ _ c.in_ok-first.ensures.span)

pub returns-then-is_literal-clause-placed : goal.returns-then-is_literal-clause-placed
returns-then-is_literal-clause-placed g c = assigned_placed c.in_ok-expr.expr c.settled.ensures.expr c.in_ok-expr.ensures.read c.in_ok-first.ensures.span c.in_ok-first.ensures.placed (c.take.ensures.takes c.if-not-take.false) c.in_ok-expr.ensures.placed

pub returns-then-is_literal-clause-settles : goal.returns-then-is_literal-clause-settles
returns-then-is_literal-clause-settles g c = assigned_settles c.settled.result c.in_ok-expr.expr c.settled.ensures.expr c.in_ok-expr.ensures.read

-- what no `=>` comes behind
pub returns-then-not-is_before_arrow-clause-read : goal.returns-then-not-is_before_arrow-clause-read
returns-then-not-is_before_arrow-clause-read g c =
    let l = ap (λ e. is_literal (view_expr e)) (sym c.deref.ensures) ∙ (sym c.is_literal.ensures ∙ c.if-is_literal.false) in
    operand_to c.is_before_arrow.ensures.stays
    (operand_at c.args.level c.requires.ranked (omega (arith, c.if-level-gt-ASSIGNMENT.false)) (operand_first c.in_ok-first.ensures.read (unlike l) (λ h. off_line c.beginning.new.lexer (sym c.is_before_arrow.ensures.ahead ∙ c.if-not-is_before_arrow.true))))

pub returns-then-not-is_before_arrow-clause-span : goal.returns-then-not-is_before_arrow-clause-span
returns-then-not-is_before_arrow-clause-span g c = spans_from c.in_ok-first.ensures.span refl refl (sym (ap end_of c.is_before_arrow.ensures.stays))

pub returns-then-not-is_before_arrow-clause-placed : goal.returns-then-not-is_before_arrow-clause-placed
returns-then-not-is_before_arrow-clause-placed g c = cover_placed_to c.is_before_arrow.ensures.stays c.in_ok-first.ensures.placed

pub returns-then-not-is_before_arrow-clause-ended : goal.returns-then-not-is_before_arrow-clause-ended
returns-then-not-is_before_arrow-clause-ended g c = subst (λ h. closed (place_of h) ≡ true) (sym c.is_before_arrow.ensures.stays) c.in_ok-first.ensures.ended

pub returns-then-not-is_before_arrow-clause-settles : goal.returns-then-not-is_before_arrow-clause-settles
returns-then-not-is_before_arrow-clause-settles g c = settles_to c.is_before_arrow.ensures.stays c.in_ok-first.ensures.settles

pub returns-in_default-clause-read : goal.returns-in_default-clause-read
returns-in_default-clause-read g c =
    let l = ap (λ e. is_literal (view_expr e)) (sym c.deref.ensures) ∙ (sym c.is_literal.ensures ∙ c.if-is_literal.false) in
    operand_to c.is_before_arrow.ensures.stays
    (operand_at c.args.level c.requires.ranked (omega (arith, c.if-level-gt-ASSIGNMENT.false))
    (operand_kept _ (ap view_expr (c.in_default.ensures.stays ∙ c.deref_mut.ensures.value)) refl refl l (ap (λ e. is_bound_name (view_expr e)) (sym c.deref_mut.ensures.value) ∙ c.in_default.ensures.unbound) c.in_ok-first.ensures.read))

-- an arrow function of one name
pub returns-in_err-expr-2-clause-refused : goal.returns-in_err-expr-2-clause-refused
returns-in_err-expr-2-clause-refused g c =
    passed _ c.in_err-expr-2.ensures.refused c.from_residual-in_err-expr-2.ensures.1
    (λ n. unnamed_operand c.args.level c.requires.ranked (omega (arith, c.if-level-gt-ASSIGNMENT.false)) c.in_ok-first.ensures.read c.in_ok-first.ensures.settles (ap (λ e. is_bound_name (view_expr e)) (sym c.deref_mut.ensures.value) ∙ c.in-Some.ensures.bound) (ap view_expr (sym c.deref_mut.ensures.value) ∙ c.in-Some.ensures.named) c.is_before_arrow.ensures.ahead c.if-not-is_before_arrow.false c.is_before_arrow.ensures.stays n)

pub returns-clause-read : goal.returns-clause-read
returns-clause-read g c =
    named_operand c.args.level c.in_ok-expr-2.expr c.requires.ranked (omega (arith, c.if-level-gt-ASSIGNMENT.false)) c.settled-2.ensures.expr c.settled-2.ensures.is_expr c.settled-2.ensures.may_turn c.in_ok-first.ensures.read c.in_ok-first.ensures.settles
    (ap (λ e. is_bound_name (view_expr e)) (sym c.deref_mut.ensures.value) ∙ c.in-Some.ensures.bound) (ap view_expr (sym c.deref_mut.ensures.value) ∙ c.in-Some.ensures.named) c.is_before_arrow.ensures.ahead c.if-not-is_before_arrow.false c.is_before_arrow.ensures.stays c.in_ok-expr-2.ensures.read c.in_ok-expr-2.ensures.ended

pub returns-clause-placed : goal.returns-clause-placed
returns-clause-placed g c =
    bare_placed c.in_ok-first.first.expr.value c.in-Some.parameter c.in_ok-expr-2.expr c.settled-2.ensures.expr c.in_ok-expr-2.ensures.read (ap told_expr (sym c.deref_mut.ensures.value) ∙ c.in-Some.ensures.told) (ap view_expr (sym c.deref_mut.ensures.value) ∙ c.in-Some.ensures.named)
    (placed_to c.is_before_arrow.ensures.stays (c.in_ok-first.ensures.placed.expr (named_settled c.in_ok-first.ensures.read (ap (λ e. is_bound_name (view_expr e)) (sym c.deref_mut.ensures.value) ∙ c.in-Some.ensures.bound)))) (c.start_of-lo.ensures.on _ _ (subst (λ e. Spans (expr_at e) (next_of c.args.lexer.now) (end_of c.beginning.new.lexer)) (sym c.deref-2.ensures) c.in_ok-first.ensures.span)) c.in_ok-expr-2.ensures.placed
