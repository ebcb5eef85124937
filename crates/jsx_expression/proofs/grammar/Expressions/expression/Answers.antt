use Rattle.std.proofs.Common.{◌≡◌, arith, refl, sym, ◌∙◌, ap, subst, nat_le}
use Rattle.std.specs.Prelude.{IsTrue}
use Rattle.jsx_tree.specs.Grammar.{pun}
use Rattle.jsx_tree.specs.Reading.{Lost, forth}
use Rattle.jsx_tree.specs.Walk.{is_found}
use Rattle.jsx_tree.specs.View.{view_expr}
use Rattle.jsx_operand.specs.Around.{around_of}
use Rattle.jsx_token.specs.Here.{place_of, left}
use Rattle.jsx_token.specs.Growths.{rung, growth_kind}
use Rattle.jsx_operand.specs.Climbing.{fits, level}
use Rattle.jsx_operand.specs.Turning.{is_literal}
use Rattle.jsx_token.specs.Places.{end_of}
use Rattle.jsx_token.proofs.Levels.{growth_listed, growth_marks}
use Rattle.jsx_operand.proofs.Climbing.{climb_barred, climb_unfit, tagged_unread}
use Rattle.std.proofs.lemmas.Bool.{le-leb, leb-true, lt-leb}
use Rattle.jsx_token.proofs.TakingGrowths.{ended as stopped}
use Rattle.jsx_operand.proofs.Places.{spans_from}
use Rattle.jsx_expression.proofs.Depths.{outgrown_as}
use Rattle.jsx_operand.proofs.Outgrowing.{climb_outgrown}
use Rattle.jsx_operand.proofs.Steps.{passed, passed_in, passed_plain}
use Rattle.jsx_operand.proofs.Templates.{quoted_to, unquoted_to}
use Rattle.jsx_function.specs.Covers.{IsCover, IsPlacedCover}
use Rattle.jsx_member.proofs.Sequences.{closed_of}
use Rattle.jsx_expression.proofs.CoverPlaces.{cover_placed_to, placed_cover}
use Rattle.jsx_expression.proofs.CoverSteps.{as_ongoing, covers_to, marked_goes, grown_unlike, ongoing, ongoing_arrow, ongoing_blocked, ongoing_ended, ongoing_grown, ongoing_none, ongoing_tagged, ongoing_to, open_to, operand_low, quote_stops, settles_at, settles_by, unarrowed_by, unsettled_whole}
use Rattle.jsx_expression.proofs.Operands.{level_low}
use Rattle.jsx_expression.proofs.grammar.Expressions.expression.Goals as goal

pub returns-in_err-first-clause-refused : goal.returns-in_err-first-clause-refused
returns-in_err-first-clause-refused g c = passed _ c.in_err-first.ensures.refused c.from_residual.ensures.1 (λ n. n.whole)

pub returns-then-level-clause-refused : goal.returns-then-level-clause-refused
returns-then-level-clause-refused g c = record {
  bars = λ _ _ _. operand_low c.args.level (ap (λ e. nat_le c.args.level (level (view_expr e))) (sym c.deref.ensures) ∙ lt-leb c.args.level (level (view_expr c.deref.result.now)) (omega (arith, c.level.ensures, c.if-level.true))) c.in_ok-first.ensures.read;
}

-- no expression, but a literal that may turn
pub returns-then-not-first-clause-read : goal.returns-then-not-first-clause-read
returns-then-not-first-clause-read g c = unsettled_whole c.args.level c.if-not-first.true c.in_ok-first.ensures.read

pub returns-then-not-first-clause-settles : goal.returns-then-not-first-clause-settles
returns-then-not-first-clause-settles g c = settles_at (omega (arith, c.level.ensures, ap (λ e. level (view_expr e)) c.deref.ensures, c.if-level.false)) c.in_ok-first.ensures.settles

pub steps-init : goal.steps-init
steps-init g c = record {
  so_far = ongoing c.args.level _ _ c.if-not-first.false refl refl (ap (λ e. nat_le c.args.level (level (view_expr e))) (sym c.deref.ensures) ∙ le-leb c.args.level (level (view_expr c.deref.result.now)) (omega (arith, c.level.ensures, c.if-level.false))) c.in_ok-first.ensures.read;
  span = c.in_ok-first.ensures.span;
  placed = subst (λ d. IsPlacedCover d c.args.lexer.now c.operand.new.lexer) (as_ongoing c.in_ok-first.first.expr c.in_ok-first.first.may_turn c.if-not-first.false refl refl) c.in_ok-first.ensures.placed;
  ended = c.in_ok-first.ensures.ended;
  settles = settles_at (omega (arith, c.level.ensures, ap (λ e. level (view_expr e)) c.deref.ensures, c.if-level.false)) c.in_ok-first.ensures.settles;
  within = c.in_ok-first.ensures.shorter;
}

-- behind the block of an arrow function
pub returns-clause-read : goal.returns-clause-read
returns-clause-read g c = subst (λ d. IsCover (around_of c.args.context.around) c.args.level (place_of c.args.lexer.now) d (place_of c.steps.lexer)) (sym c.of-2.ensures) (ongoing_blocked c.args.level refl (sym c.is_behind_block.ensures ∙ c.steps-test.false) c.steps.invariant.so_far)

pub returns-clause-placed : goal.returns-clause-placed
returns-clause-placed g c = subst (λ d. IsPlacedCover d c.args.lexer.now c.steps.lexer) (sym c.of-2.ensures) c.steps.invariant.placed

-- nothing goes on
pub returns-in_default-clause-read : goal.returns-in_default-clause-read
returns-in_default-clause-read g c =
    let e = c.is_before_template.ensures.stays in
    let f = open_to e c.is_behind_block.ensures c.steps-test.true in
    let here = ongoing_to e c.steps.invariant.so_far in
    subst (λ d. IsCover (around_of c.args.context.around) c.args.level (place_of c.args.lexer.now) d (place_of c.refuse_arrow.new.lexer)) (sym c.of.ensures)
    (covers_to (c.in_ok-refuse_arrow.ensures.stays ∙ c.in_default.ensures.stays)
    (ongoing_ended c.args.level c.requires.ranked refl f
    (stopped (rung c.args.level) c.is_before_template.new.self c.requires.ranked (here.climbs f).ended c.in_default.ensures.missing (unarrowed_by c.args.level c.is_before_template.new.self (λ l. subst (λ h. forth (pun "=>") (place_of h) ≡ Lost) c.in_default.ensures.stays (c.in_ok-refuse_arrow.ensures.no_arrow l))) (unquoted_to e c.is_before_template.ensures.ahead c.if-is_before_template.false))
    here))

pub returns-in_err-refuse_arrow-clause-refused : goal.returns-in_err-refuse_arrow-clause-refused
returns-in_err-refuse_arrow-clause-refused g c =
    let e = c.is_before_template.ensures.stays in
    passed_plain _ c.in_err-refuse_arrow.ensures.refused c.from_residual-in_err-refuse_arrow.ensures.1 (λ p. ongoing_arrow c.args.level (level_low c.args.level c.requires.ranked p.0) (open_to e c.is_behind_block.ensures c.steps-test.true) (ongoing_to e c.steps.invariant.so_far) (subst (λ h. IsTrue (is_found (forth (pun "=>") (place_of h)))) c.in_default.ensures.stays p.1))

pub returns-in_err-expr-clause-refused : goal.returns-in_err-expr-clause-refused
returns-in_err-expr-clause-refused g c =
    let e = c.is_before_template.ensures.stays in
    let f = open_to e c.is_behind_block.ensures c.steps-test.true in
    let here = ongoing_to e c.steps.invariant.so_far in
    let q = quoted_to e c.is_before_template.ensures.ahead c.if-is_before_template.true in
    passed _ c.in_err-expr.ensures.refused c.from_residual-in_err-expr.ensures.1 (λ n. ongoing_none c.args.level here (quote_stops c.args.level f here q) (tagged_unread (rung c.args.level) c.requires.ranked (here.climbs f) q n))

pub steps-preserved-in_ok-expr : goal.steps-preserved-in_ok-expr
steps-preserved-in_ok-expr g c =
    let e = c.is_before_template.ensures.stays in
    let f = open_to e c.is_behind_block.ensures c.steps-test.true in
    let here = ongoing_to e c.steps.invariant.so_far in
    let span = spans_from c.steps.invariant.span refl refl (sym (ap end_of e)) in
    record {
      so_far = ongoing_tagged c.args.level _ c.requires.ranked f here (quoted_to e c.is_before_template.ensures.ahead c.if-is_before_template.true) c.in_ok-expr.ensures.fits c.in_ok-expr.ensures.read c.in_ok-expr.ensures.ended;
      span = c.in_ok-expr.ensures.span.on _ _ span;
      placed = placed_cover (ap is_literal c.in_ok-expr.ensures.read.is) (c.in_ok-expr.ensures.placed.on _ span ((cover_placed_to e c.steps.invariant.placed).expr refl));
      ended = closed_of (place_of c.tagged.new.lexer) c.in_ok-expr.ensures.ended;
      settles = settles_by c.in_ok-expr.ensures.ended;
      within = omega (arith, c.in_ok-expr.ensures.shorter, ap left e, c.steps.invariant.within);
    }

pub returns-then-not-fits-clause-refused : goal.returns-then-not-fits-clause-refused
returns-then-not-fits-clause-refused g c = record {
  bars = λ _ _ _.
      let g = c.in-Some.growth in
      let e = c.is_before_template.ensures.stays in
      let f = open_to e c.is_behind_block.ensures c.steps-test.true in
      let here = ongoing_to e c.steps.invariant.so_far in
      ongoing_none c.args.level here (marked_goes c.args.level (growth_kind g) (growth_listed g) (growth_marks g) f here c.in-Some.ensures.on_line (record { is = c.in-Some.ensures.taken; found = refl }) c.in-Some.ensures.reaches)
      (climb_unfit (rung c.args.level) (growth_kind g) c.requires.ranked (growth_listed g) (growth_marks g) (here.climbs f) c.in-Some.ensures.on_line (record { is = c.in-Some.ensures.taken; found = refl }) c.in-Some.ensures.reaches
      (ap (λ e. fits (growth_kind g) (view_expr e)) (sym c.deref-else-is_before_template.ensures) ∙ (sym c.fits.ensures ∙ c.if-not-fits.true)));
}

pub returns-in_err-levels-clause-refused : goal.returns-in_err-levels-clause-refused
returns-in_err-levels-clause-refused g c =
    let g = c.in-Some.growth in
    let e = c.is_before_template.ensures.stays in
    let f = open_to e c.is_behind_block.ensures c.steps-test.true in
    let here = ongoing_to e c.steps.invariant.so_far in
    passed _ (outgrown_as (ap view_expr c.deref-else-is_before_template-2.ensures) c.in_err-levels.ensures.refused) c.from_residual-in_err-levels.ensures.1
    (λ o. ongoing_none c.args.level here (marked_goes c.args.level (growth_kind g) (growth_listed g) (growth_marks g) f here c.in-Some.ensures.on_line (record { is = c.in-Some.ensures.taken; found = refl }) c.in-Some.ensures.reaches)
    (climb_outgrown (rung c.args.level) (growth_kind g) _ c.requires.ranked (growth_listed g) (growth_marks g) (here.climbs f) c.in-Some.ensures.on_line (record { is = c.in-Some.ensures.taken; found = refl }) c.in-Some.ensures.reaches o))

pub returns-in_err-expr-2-clause-refused : goal.returns-in_err-expr-2-clause-refused
returns-in_err-expr-2-clause-refused g c =
    let g = c.in-Some.growth in
    let e = c.is_before_template.ensures.stays in
    let f = open_to e c.is_behind_block.ensures c.steps-test.true in
    let here = ongoing_to e c.steps.invariant.so_far in
    passed_in _ c.in_ok-levels.ensures.levels c.in_err-expr-2.ensures.refused c.from_residual-in_err-expr-2.ensures.1
    (λ n. ongoing_none c.args.level here (marked_goes c.args.level (growth_kind g) (growth_listed g) (growth_marks g) f here c.in-Some.ensures.on_line (record { is = c.in-Some.ensures.taken; found = refl }) c.in-Some.ensures.reaches)
    (climb_barred (rung c.args.level) (growth_kind g) c.requires.ranked (growth_listed g) (growth_marks g) (here.climbs f) c.in-Some.ensures.on_line (record { is = c.in-Some.ensures.taken; found = refl }) c.in-Some.ensures.reaches n))

pub steps-preserved : goal.steps-preserved
steps-preserved g c =
    let g = c.in-Some.growth in
    let e = c.is_before_template.ensures.stays in
    let f = open_to e c.is_behind_block.ensures c.steps-test.true in
    let here = ongoing_to e c.steps.invariant.so_far in
    let span = spans_from c.steps.invariant.span refl refl (sym (ap end_of e)) in
    record {
      so_far = ongoing_grown c.args.level (growth_kind g) _ c.requires.ranked (growth_listed g) (growth_marks g) f here c.in-Some.ensures.on_line (record { is = c.in-Some.ensures.taken; found = refl }) c.in-Some.ensures.reaches
          (ap (λ e. fits (growth_kind g) (view_expr e)) (sym c.deref-else-is_before_template.ensures) ∙ (sym c.fits.ensures ∙ c.if-not-fits.false)) c.in_ok-expr-2.ensures.read c.in_ok-expr-2.ensures.ended c.in_ok-expr-2.ensures.settles;
      span = c.in_ok-expr-2.ensures.span.on _ _ span;
      placed = placed_cover (grown_unlike (growth_kind g) (growth_marks g) c.in_ok-expr-2.ensures.read) (c.in_ok-expr-2.ensures.placed.on _ _ span ((cover_placed_to e c.steps.invariant.placed).expr refl) c.in-Some.ensures.takes);
      ended = c.in_ok-expr-2.ensures.ended;
      settles = settles_at (leb-true c.args.level _ c.in-Some.ensures.reaches) c.in_ok-expr-2.ensures.settles;
      within = omega (arith, c.in_ok-expr-2.ensures.within, c.in-Some.ensures.shorter, ap left e, c.steps.invariant.within);
    }
