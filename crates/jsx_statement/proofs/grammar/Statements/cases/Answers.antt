use Rattle.std.proofs.Common.{◌≡◌, true, false, cond, arith, map, refl, sym, ◌∙◌, ap, subst}
use Rattle.std.specs.Prelude.{◌&&◌, ◌||◌}
use Rattle.jsx_tree.specs.Grammar.{Lines}
use Rattle.jsx_tree.specs.StaticRules.{is_default}
use Rattle.jsx_tree.specs.Told.{tales, told_control}
use Rattle.jsx_tree.specs.View.{forest, inside, view_control}
use Rattle.jsx_tree.proofs.Rows.Lists.{begun}
use Rattle.jsx_token.specs.Here.{place_of, left}
use Rattle.jsx_operand.specs.Spans.{IsPlacedList}
use Rattle.jsx_statement.proofs.Cases.{case_at, cases_barred, cases_ended, cases_more, defaults, defaults_next, few_defaults, more_defaults, second_default}
use Rattle.jsx_operand.proofs.Steps.{passed, passed_plain}
use Rattle.jsx_operand.proofs.Trees.{pushed}
use Rattle.jsx_operand.proofs.Placing.{PlacedFront, plain_lines, front_last, front_more, front_none, list_none, map_pushed, placed_from, row_end, row_list, row_quiet, row_sign}
use Rattle.jsx_statement.proofs.grammar.Statements.cases.Goals as goal

pub cases-init : goal.cases-init
cases-init g c = record {
  so_far = begun _ (ap (λ xs. forest (map (inside view_control) xs)) c.new-all.ensures.items);
  defaults = subst (λ xs. defaults (forest (map (inside view_control) xs)) ≡ 0) (sym c.new-all.ensures.items) refl;
  placed = subst (λ xs. PlacedFront false Lines (map (inside told_control) xs) (map (inside view_control) xs) c.args.lexer.now c.args.lexer.now) (sym c.new-all.ensures.items) front_none;
  closed = subst (λ xs. IsPlacedList Lines (tales (map (inside told_control) xs)) (forest (map (inside view_control) xs)) c.args.lexer.now c.args.lexer.now) (sym c.new-all.ensures.items) list_none;
  within = omega arith;
}

pub returns-in_err-next-clause-refused : goal.returns-in_err-next-clause-refused
returns-in_err-next-clause-refused g c = passed _ c.in_err-next.ensures.refused c.from_residual.ensures.1 (λ n. cases_barred _ c.cases.invariant.so_far (record { same = sym (ap place_of (c.take.ensures.stays c.cases-test.true)); stuck = record { is = c.take.ensures.missing c.cases-test.true } }) n)

pub returns-in_err-has_default-clause-refused : goal.returns-in_err-has_default-clause-refused
returns-in_err-has_default-clause-refused g c = passed_plain _ c.in_err-has_default.ensures.refused c.from_residual-in_err-has_default.ensures.1
    (λ b. second_default c.cases.has_default _ c.cases.invariant.so_far (case_at (c.take.ensures.stays c.cases-test.true) c.in_ok-next.ensures.read) c.cases.invariant.defaults (subst (λ s. (c.cases.has_default && is_default (view_control s)) ≡ true) c.deref.ensures b))

pub cases-preserved : goal.cases-preserved
cases-preserved g c =
    let same : left c.take.new.self ≡ left c.cases.lexer = ap left (c.take.ensures.stays c.cases-test.true) in
    let next = placed_from (c.take.ensures.stays c.cases-test.true) c.in_ok-next.ensures.placed in
    let told_all = map_pushed (inside told_control) c.cases.all.items _ c.in_ok-next.next _ c.in_ok-push.ensures.items refl in
    let view_all = map_pushed (inside view_control) c.cases.all.items _ c.in_ok-next.next _ c.in_ok-push.ensures.items refl in
    let all = pushed (inside view_control) _ _ _ c.in_ok-push.ensures.items in
    record {
      so_far = cases_more _ _ c.cases.invariant.so_far (case_at (c.take.ensures.stays c.cases-test.true) c.in_ok-next.ensures.read) all;
      defaults = ap defaults all ∙ (defaults_next c.cases.has_default (is_default (view_control c.in_ok-next.next.value)) _ _ c.cases.invariant.defaults (subst (λ s. (c.cases.has_default && is_default (view_control s)) ≡ false) c.deref.ensures c.in_ok-has_default.ensures.one) (more_defaults (forest (map (inside view_control) c.cases.all.items)) (view_control c.in_ok-next.next.value)) ∙ ap (λ b. cond b 1 0) (sym (subst (λ s. c.in_ok-has_default.has_default ≡ (c.cases.has_default || is_default (view_control s))) c.deref.ensures c.in_ok-has_default.ensures.has)));
      within = omega (arith, same, c.in_ok-next.ensures.shorter, c.cases.invariant.within);
      placed = front_more plain_lines c.cases.invariant.placed next refl refl told_all view_all;
      closed = front_last plain_lines c.cases.invariant.placed next refl refl told_all view_all;
    }

pub returns-clause-one_default : goal.returns-clause-one_default
returns-clause-one_default g c = few_defaults c.cases.has_default (forest (map (inside view_control) c.cases.all.items)) c.cases.invariant.defaults

pub returns-clause-read : goal.returns-clause-read
returns-clause-read g c = cases_ended _ c.cases.invariant.so_far (record { is = c.take.ensures.taken c.cases-test.false; found = refl })

pub returns-clause-placed : goal.returns-clause-placed
returns-clause-placed g c = row_list c.cases.invariant.closed (row_quiet (λ q. refl) (row_sign (c.take.ensures.takes c.cases-test.false) row_end))
