use Rattle.std.proofs.Common.{◌≡◌, true, false, arith, map, refl, sym, ◌∙◌, ap, subst}
use Rattle.std.specs.Prelude.{◌&&◌}
use Rattle.jsx_tree.specs.Grammar.{Commas}
use Rattle.jsx_tree.specs.StaticRules.{all_of, is_word}
use Rattle.jsx_tree.specs.View.{forest, inside, view_pat}
use Rattle.jsx_tree.specs.Told.{tales, told_pat}
use Rattle.jsx_token.specs.Here.{place_of, left}
use Rattle.jsx_operand.specs.Spans.{IsPlacedListAs}
use Rattle.jsx_tree.proofs.Rows.Lists.{begun}
use Rattle.jsx_operand.proofs.Steps.{passed}
use Rattle.jsx_operand.proofs.Trees.{pushed}
use Rattle.jsx_operand.proofs.Placing.{PlacedFront, plain_commas, row_sign, row_list, list_none, front_none, front_more, front_last, list_to, map_pushed, placed_from}
use Rattle.jsx_operand.proofs.PlacedExpressions.{no_trailing, takes_trailing}
use Rattle.jsx_function.proofs.Functions.{all_more}
use Rattle.jsx_function.proofs.Params.{none_more, param_more, shut, shut_behind, unshut}
use Rattle.jsx_function.proofs.grammar.Within.parameters.Goals as goal

pub parameters-init : goal.parameters-init
parameters-init g c = record {
  so_far = begun _ (ap (λ xs. forest (map (inside view_pat) xs)) c.new-all.ensures.items);
  simple = ap (λ xs. all_of is_word (forest (map (inside view_pat) xs))) (sym c.new-all.ensures.items);
  placed = subst (λ xs. PlacedFront false Commas (map (inside told_pat) xs) (map (inside view_pat) xs) c.args.lexer.now c.args.lexer.now) (sym c.new-all.ensures.items) front_none;
  closed = subst (λ xs. IsPlacedListAs false Commas (tales (map (inside told_pat) xs)) (forest (map (inside view_pat) xs)) c.args.lexer.now c.args.lexer.now) (sym c.new-all.ensures.items) list_none;
  within = omega arith;
}

pub returns-in_err-parameter-clause-refused : goal.returns-in_err-parameter-clause-refused
returns-in_err-parameter-clause-refused g c = passed _ c.in_err-parameter.ensures.refused c.from_residual.ensures.1
    (λ b. none_more _ c.parameters.invariant.so_far (record { same = sym (ap place_of (c.take.ensures.stays c.parameters-test.true)); stuck = record { is = c.take.ensures.missing c.parameters-test.true } }) b)

pub returns-in_err-expect-clause-refused : goal.returns-in_err-expect-clause-refused
returns-in_err-expect-clause-refused g c = passed _ c.in_err-expect.ensures.refused c.from_residual-in_err-expect.ensures.1
    (λ b. unshut _ c.parameters.invariant.so_far (record { same = sym (ap place_of (c.take.ensures.stays c.parameters-test.true)); stuck = record { is = c.take.ensures.missing c.parameters-test.true } }) c.in_ok-parameter.ensures.read
    (record { same = sym (ap place_of (c.take-in-parameters.ensures.stays c.if-not-take.true)); stuck = record { is = c.take-in-parameters.ensures.missing c.if-not-take.true } }) b)

pub returns-then-not-take-clause-read : goal.returns-then-not-take-clause-read
returns-then-not-take-clause-read g c = shut_behind _ _ c.parameters.invariant.so_far (record { same = sym (ap place_of (c.take.ensures.stays c.parameters-test.true)); stuck = record { is = c.take.ensures.missing c.parameters-test.true } }) c.in_ok-parameter.ensures.read
    (record { same = sym (ap place_of (c.take-in-parameters.ensures.stays c.if-not-take.true)); stuck = record { is = c.take-in-parameters.ensures.missing c.if-not-take.true } }) c.in_ok-expect.ensures.read (pushed (inside view_pat) _ _ _ c.in_ok-push.ensures.items)

pub returns-then-not-take-clause-simple : goal.returns-then-not-take-clause-simple
returns-then-not-take-clause-simple g c =
    (λ i. c.parameters.invariant.simple i && c.in_ok-parameter.ensures.simple i) ∙ sym (all_more is_word _ _ (map_pushed (inside view_pat) c.parameters.all.items _ c.in_ok-parameter.parameter.pattern _ c.in_ok-push.ensures.items refl))

pub returns-then-not-take-clause-placed : goal.returns-then-not-take-clause-placed
returns-then-not-take-clause-placed g c =
    let parameter = placed_from (c.take.ensures.stays c.parameters-test.true) c.in_ok-parameter.ensures.placed in
    let closed = list_to (c.take-in-parameters.ensures.stays c.if-not-take.true) (front_last plain_commas c.parameters.invariant.placed parameter refl (no_trailing _ (c.take-in-parameters.ensures.missing c.if-not-take.true))
    (map_pushed (inside told_pat) c.parameters.all.items _ c.in_ok-parameter.parameter.pattern _ c.in_ok-push.ensures.items refl) (map_pushed (inside view_pat) c.parameters.all.items _ c.in_ok-parameter.parameter.pattern _ c.in_ok-push.ensures.items refl)) in
    record { on = λ ps ds ts z r. row_list closed (row_sign c.in_ok-expect.ensures.takes r) }

pub parameters-preserved : goal.parameters-preserved
parameters-preserved g c =
    let same : left c.take.new.self ≡ left c.parameters.lexer = ap left (c.take.ensures.stays c.parameters-test.true) in
    let parameter = placed_from (c.take.ensures.stays c.parameters-test.true) c.in_ok-parameter.ensures.placed in
    let comma = c.take-in-parameters.ensures.takes c.if-not-take.false in
    let told_all = map_pushed (inside told_pat) c.parameters.all.items _ c.in_ok-parameter.parameter.pattern _ c.in_ok-push.ensures.items refl in
    let view_all = map_pushed (inside view_pat) c.parameters.all.items _ c.in_ok-parameter.parameter.pattern _ c.in_ok-push.ensures.items refl in
    record {
      so_far = param_more _ _ c.parameters.invariant.so_far (record { same = sym (ap place_of (c.take.ensures.stays c.parameters-test.true)); stuck = record { is = c.take.ensures.missing c.parameters-test.true } }) c.in_ok-parameter.ensures.read
          (record { is = c.take-in-parameters.ensures.taken c.if-not-take.false; found = refl }) (pushed (inside view_pat) _ _ _ c.in_ok-push.ensures.items);
      simple = (λ i. c.parameters.invariant.simple i && c.in_ok-parameter.ensures.simple i) ∙ sym (all_more is_word _ _ view_all);
      within = omega (arith, same, c.take-in-parameters.ensures.shorter c.if-not-take.false, c.in_ok-parameter.ensures.shorter, c.parameters.invariant.within);
      placed = front_more plain_commas c.parameters.invariant.placed parameter comma.same comma.leads told_all view_all;
      closed = front_last plain_commas c.parameters.invariant.placed parameter comma.same (takes_trailing comma) told_all view_all;
    }

pub returns-clause-read : goal.returns-clause-read
returns-clause-read g c = shut _ c.parameters.invariant.so_far (record { is = c.take.ensures.taken c.parameters-test.false; found = refl })

pub returns-clause-simple : goal.returns-clause-simple
returns-clause-simple g c = c.parameters.invariant.simple

pub returns-clause-placed : goal.returns-clause-placed
returns-clause-placed g c = record { on = λ ps ds ts z r. row_list c.parameters.invariant.closed (row_sign (c.take.ensures.takes c.parameters-test.false) r) }
