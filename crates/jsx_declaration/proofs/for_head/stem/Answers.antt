use Rattle.std.proofs.Common.{◌≡◌, nat_le, arith, refl, sym, ◌∙◌, ap, subst}
use Rattle.std.specs.Prelude.{IsTrue}
use Rattle.std.proofs.lemmas.Bool.{le-leb, lt-leb}
use Rattle.jsx_tree.specs.Grammar.{pun}
use Rattle.jsx_tree.specs.Reading.{Lost, forth}
use Rattle.jsx_tree.specs.View.{view_expr}
use Rattle.jsx_tree.specs.Walk.{is_found}
use Rattle.jsx_token.specs.Here.{place_of, left}
use Rattle.jsx_token.specs.Growths.{rung, growth_kind}
use Rattle.jsx_token.specs.Places.{end_of}
use Rattle.jsx_token.proofs.Levels.{growth_marks, growth_listed}
use Rattle.jsx_token.proofs.TakingGrowths.{ended}
use Rattle.jsx_operand.specs.Around.{around_of}
use Rattle.jsx_operand.specs.Climbing.{fits, level}
use Rattle.jsx_operand.proofs.Templates.{quoted_to, unquoted_to}
use Rattle.jsx_operand.proofs.Places.{spans_from}
use Rattle.jsx_operand.proofs.Steps.{passed, passed_in, passed_plain}
use Rattle.jsx_expression.proofs.CoverSteps.{as_ongoing, unarrowed_by}
use Rattle.jsx_make.specs.NodeSpans.{expr_at}
use Rattle.jsx_declaration.proofs.Controls.{outgrown_as}
use Rattle.jsx_declaration.specs.Heads.{at_end, IsPlacedStem, IsStem, Stopped}
use Rattle.jsx_declaration.proofs.Stems.{goes_on, grown_is, placed_first, placed_grown, placed_stem, stem_arrowed, stem_at, stem_barred, stem_ends, stem_first, stem_low, stem_more, stem_outgrown, stem_pattern, stem_tagged, stem_to, stem_unbegun, stem_unfit, stem_untagged, stopped, tagged_is}
use Rattle.jsx_declaration.proofs.for_head.stem.Goals as goal

pub returns-in_err-first-clause-refused : goal.returns-in_err-first-clause-refused
returns-in_err-first-clause-refused g c = passed _ c.in_err-first.ensures.refused c.from_residual.ensures.1 (λ n. stem_unbegun c.requires.undeclared n)

pub returns-then-level-lt-ASSIGNMENT-clause-refused : goal.returns-then-level-lt-ASSIGNMENT-clause-refused
returns-then-level-lt-ASSIGNMENT-clause-refused g c = record {
  bars = λ _ _ _.
      stem_low c.requires.undeclared c.in_ok-first.ensures.read (ap (λ e. nat_le 1 (level (view_expr e))) (sym c.deref.ensures) ∙ lt-leb 1 (level (view_expr c.deref.result.now)) (omega (arith, c.level.ensures, c.if-level-lt-ASSIGNMENT.true)))
      (ap (λ e. nat_le 11 (level (view_expr e))) (sym c.deref.ensures) ∙ lt-leb 11 (level (view_expr c.deref.result.now)) (omega (arith, c.level.ensures, c.if-level-lt-ASSIGNMENT.true)));
}

-- no expression, but a literal that may turn
pub returns-then-not-first-clause-read : goal.returns-then-not-first-clause-read
returns-then-not-first-clause-read g c = stem_pattern c.requires.undeclared c.in_ok-first.ensures.read c.if-not-first.true c.in_ok-first.ensures.ended

pub returns-then-not-first-clause-placed : goal.returns-then-not-first-clause-placed
returns-then-not-first-clause-placed g c = placed_first c.in_ok-first.ensures.placed

pub steps-init : goal.steps-init
steps-init g c = record {
  stem = stem_first c.requires.undeclared c.in_ok-first.ensures.read c.if-not-first.false (ap (λ e. nat_le 1 (level (view_expr e))) (sym c.deref.ensures) ∙ le-leb 1 (level (view_expr c.deref.result.now)) (omega (arith, c.level.ensures, c.if-level-lt-ASSIGNMENT.false))) c.in_ok-first.ensures.ended;
  span = c.in_ok-first.ensures.span;
  placed = subst (λ d. IsPlacedStem d c.args.lexer.now c.operand.new.lexer) (as_ongoing c.in_ok-first.first.expr c.in_ok-first.first.may_turn c.if-not-first.false refl refl) (placed_first c.in_ok-first.ensures.placed);
  within = c.in_ok-first.ensures.shorter;
}

-- before `in`, or behind the block of an arrow function
pub returns-clause-read : goal.returns-clause-read
returns-clause-read g c = subst (λ d. IsStem (around_of c.args.context.around) (place_of c.args.lexer.now) d (place_of c.ends_stem.new.lexer)) (sym c.of-2.ensures)
    (stem_ends (stem_to c.ends_stem.ensures.stays c.steps.invariant.stem) refl (subst (λ h. Stopped (place_of h)) (sym c.ends_stem.ensures.stays) (stopped c.steps.lexer c.ends_stem.ensures.ahead c.steps-test.false)))

pub returns-clause-span : goal.returns-clause-span
returns-clause-span g c = spans_from c.steps.invariant.span (ap (λ d. expr_at d.expr.value) c.of-2.ensures) refl (sym (ap end_of c.ends_stem.ensures.stays))

pub returns-clause-placed : goal.returns-clause-placed
returns-clause-placed g c = subst (λ d. IsPlacedStem d c.args.lexer.now c.ends_stem.new.lexer) (sym c.of-2.ensures) (placed_stem c.ends_stem.ensures.stays c.steps.invariant.placed)

-- nothing goes on
pub returns-in_default-clause-read : goal.returns-in_default-clause-read
returns-in_default-clause-read g c =
    let e = c.is_before_template.ensures.stays ∙ c.ends_stem.ensures.stays in
    let f = goes_on e c.ends_stem.ensures.ahead c.steps-test.true in
    let here = stem_to e c.steps.invariant.stem in
    let h = c.is_before_template.new.self in
    subst (λ d. IsStem (around_of c.args.context.around) (place_of c.args.lexer.now) d (place_of c.refuse_arrow.new.lexer)) (sym c.of.ensures)
    (stem_at (c.in_ok-refuse_arrow.ensures.stays ∙ c.in_default.ensures.stays)
    (stem_ends here refl
    (at_end (ended (rung 1) h refl (here.so_far.climbs f.free).ended c.in_default.ensures.missing (unarrowed_by 1 h (λ l. subst (λ q. forth (pun "=>") (place_of q) ≡ Lost) c.in_default.ensures.stays (c.in_ok-refuse_arrow.ensures.no_arrow l))) (unquoted_to c.is_before_template.ensures.stays c.is_before_template.ensures.ahead c.if-is_before_template.false)))))

pub returns-in_default-clause-span : goal.returns-in_default-clause-span
returns-in_default-clause-span g c =
    let e = c.is_before_template.ensures.stays ∙ c.ends_stem.ensures.stays in
    spans_from c.steps.invariant.span (ap (λ d. expr_at d.expr.value) c.of.ensures) refl (sym (ap end_of (c.in_ok-refuse_arrow.ensures.stays ∙ (c.in_default.ensures.stays ∙ e))))

pub returns-in_default-clause-placed : goal.returns-in_default-clause-placed
returns-in_default-clause-placed g c =
    let e = c.is_before_template.ensures.stays ∙ c.ends_stem.ensures.stays in
    subst (λ d. IsPlacedStem d c.args.lexer.now c.refuse_arrow.new.lexer) (sym c.of.ensures) (placed_stem (c.in_ok-refuse_arrow.ensures.stays ∙ (c.in_default.ensures.stays ∙ e)) c.steps.invariant.placed)

pub returns-in_err-refuse_arrow-clause-refused : goal.returns-in_err-refuse_arrow-clause-refused
returns-in_err-refuse_arrow-clause-refused g c =
    let e = c.is_before_template.ensures.stays ∙ c.ends_stem.ensures.stays in
    let f = goes_on e c.ends_stem.ensures.ahead c.steps-test.true in
    passed_plain _ c.in_err-refuse_arrow.ensures.refused c.from_residual-in_err-refuse_arrow.ensures.1
    (λ p. stem_arrowed c.requires.undeclared (stem_to e c.steps.invariant.stem) f.free (subst (λ h. IsTrue (is_found (forth (pun "=>") (place_of h)))) c.in_default.ensures.stays p.1))

pub returns-in_err-expr-clause-refused : goal.returns-in_err-expr-clause-refused
returns-in_err-expr-clause-refused g c =
    let here = c.is_before_template.ensures.stays in
    let e = here ∙ c.ends_stem.ensures.stays in
    let f = goes_on e c.ends_stem.ensures.ahead c.steps-test.true in
    passed _ c.in_err-expr.ensures.refused c.from_residual-in_err-expr.ensures.1
    (λ n. stem_untagged c.requires.undeclared (stem_to e c.steps.invariant.stem) f.free (quoted_to here c.is_before_template.ensures.ahead c.if-is_before_template.true) n)

pub steps-preserved-in_ok-expr : goal.steps-preserved-in_ok-expr
steps-preserved-in_ok-expr g c =
    let here = c.is_before_template.ensures.stays in
    let e = here ∙ c.ends_stem.ensures.stays in
    let f = goes_on e c.ends_stem.ensures.ahead c.steps-test.true in
    let q = quoted_to here c.is_before_template.ensures.ahead c.if-is_before_template.true in
    let span = spans_from c.steps.invariant.span refl refl (sym (ap end_of e)) in
    record {
      stem = stem_tagged (stem_to e c.steps.invariant.stem) f.free q c.in_ok-expr.ensures.fits c.in_ok-expr.ensures.read c.in_ok-expr.ensures.ended;
      span = c.in_ok-expr.ensures.span.on _ _ span;
      placed = placed_grown (tagged_is c.in_ok-expr.ensures.read) (c.in_ok-expr.ensures.placed.on _ span ((placed_stem e c.steps.invariant.placed).expr refl));
      within = omega (arith, c.in_ok-expr.ensures.shorter, ap left e, c.steps.invariant.within);
    }

pub returns-then-not-fits-clause-refused : goal.returns-then-not-fits-clause-refused
returns-then-not-fits-clause-refused g c = record {
  bars = λ _ _ _.
      let g = c.in-Some.growth in
      let e = c.is_before_template.ensures.stays ∙ c.ends_stem.ensures.stays in
      let f = goes_on e c.ends_stem.ensures.ahead c.steps-test.true in
      stem_unfit (growth_kind g) c.requires.undeclared (stem_to e c.steps.invariant.stem) f.free (growth_listed g) (growth_marks g) c.in-Some.ensures.on_line (record { is = c.in-Some.ensures.taken; found = refl }) c.in-Some.ensures.reaches f.none
      (ap (λ e. fits (growth_kind g) (view_expr e)) (sym c.deref-else-is_before_template.ensures) ∙ (sym c.fits.ensures ∙ c.if-not-fits.true));
}

pub returns-in_err-levels-clause-refused : goal.returns-in_err-levels-clause-refused
returns-in_err-levels-clause-refused g c =
    let g = c.in-Some.growth in
    let e = c.is_before_template.ensures.stays ∙ c.ends_stem.ensures.stays in
    let f = goes_on e c.ends_stem.ensures.ahead c.steps-test.true in
    passed _ (outgrown_as (ap view_expr c.deref-else-is_before_template-2.ensures) c.in_err-levels.ensures.refused) c.from_residual-in_err-levels.ensures.1
    (λ n. stem_outgrown (growth_kind g) c.requires.undeclared (stem_to e c.steps.invariant.stem) f.free (growth_listed g) (growth_marks g) c.in-Some.ensures.on_line (record { is = c.in-Some.ensures.taken; found = refl }) c.in-Some.ensures.reaches f.none n)

pub returns-in_err-expr-2-clause-refused : goal.returns-in_err-expr-2-clause-refused
returns-in_err-expr-2-clause-refused g c =
    let g = c.in-Some.growth in
    let e = c.is_before_template.ensures.stays ∙ c.ends_stem.ensures.stays in
    let f = goes_on e c.ends_stem.ensures.ahead c.steps-test.true in
    passed_in _ c.in_ok-levels.ensures.levels c.in_err-expr-2.ensures.refused c.from_residual-in_err-expr-2.ensures.1
    (λ n. stem_barred (growth_kind g) c.requires.undeclared (stem_to e c.steps.invariant.stem) f.free (growth_listed g) (growth_marks g) c.in-Some.ensures.on_line (record { is = c.in-Some.ensures.taken; found = refl }) c.in-Some.ensures.reaches f.none n)

pub steps-preserved : goal.steps-preserved
steps-preserved g c =
    let g = c.in-Some.growth in
    let e = c.is_before_template.ensures.stays ∙ c.ends_stem.ensures.stays in
    let f = goes_on e c.ends_stem.ensures.ahead c.steps-test.true in
    let span = spans_from c.steps.invariant.span refl refl (sym (ap end_of e)) in
    record {
      stem = stem_more (growth_kind g) c.requires.undeclared (stem_to e c.steps.invariant.stem) f.free (growth_listed g) (growth_marks g) c.in-Some.ensures.on_line (record { is = c.in-Some.ensures.taken; found = refl }) c.in-Some.ensures.reaches f.none
          (ap (λ e. fits (growth_kind g) (view_expr e)) (sym c.deref-else-is_before_template.ensures) ∙ (sym c.fits.ensures ∙ c.if-not-fits.false)) c.in_ok-expr-2.ensures.read c.in_ok-expr-2.ensures.ended c.in_ok-expr-2.ensures.settles;
      span = c.in_ok-expr-2.ensures.span.on _ _ span;
      placed = placed_grown (grown_is (growth_kind g) (growth_listed g) (growth_marks g) c.in_ok-expr-2.ensures.read) (c.in_ok-expr-2.ensures.placed.on _ _ span ((placed_stem e c.steps.invariant.placed).expr refl) c.in-Some.ensures.takes);
      within = omega (arith, c.in_ok-expr-2.ensures.within, c.in-Some.ensures.shorter, ap left e, c.steps.invariant.within);
    }
