use Rattle.std.proofs.Common.{◌≡◌, true, false, arith, map, refl, sym, ap, subst}
use Rattle.std.specs.Prelude.{codes}
use Rattle.jsx_base.specs.Token.{Operator, Punctuator}
use Rattle.jsx_tree.specs.Grammar.{Commas}
use Rattle.jsx_tree.specs.View.{forest, inside, view_expr}
use Rattle.jsx_tree.specs.Told.{tales, told_expr}
use Rattle.jsx_operand.specs.SoFar.{so_far}
use Rattle.jsx_token.specs.Here.{place_of, left}
use Rattle.jsx_operand.specs.Spans.{IsPlacedListAs}
use Rattle.jsx_operand.proofs.OfSoFar.{of_so_far}
use Rattle.jsx_tree.proofs.Rows.Lists.{begun, ended, ended_behind, no_more, not_closed, item_more, round}
use Rattle.jsx_operand.proofs.Values.{settled_token, sign_ended}
use Rattle.jsx_operand.proofs.Steps.{passed}
use Rattle.jsx_member.proofs.Elements.{arguments, items}
use Rattle.jsx_operand.proofs.Trees.{pushed}
use Rattle.jsx_operand.proofs.Placing.{PlacedFront, plain_commas, row_end, row_sign, row_list, list_none, front_none, front_more, front_last, list_to, map_pushed, placed_from}
use Rattle.jsx_operand.proofs.PlacedExpressions.{no_trailing, takes_trailing}
use Rattle.jsx_member.proofs.grammar.Brackets.arguments.Goals as goal

pub arguments-init : goal.arguments-init
arguments-init g c = record {
  so_far = begun _ (ap (λ xs. forest (map (inside view_expr) xs)) c.new-all.ensures.items);
  placed = subst (λ xs. PlacedFront true Commas (map (inside told_expr) xs) (map (inside view_expr) xs) c.args.lexer.now c.args.lexer.now) (sym c.new-all.ensures.items) front_none;
  closed = subst (λ xs. IsPlacedListAs true Commas (tales (map (inside told_expr) xs)) (forest (map (inside view_expr) xs)) c.args.lexer.now c.args.lexer.now) (sym c.new-all.ensures.items) list_none;
  within = omega arith;
}

pub returns-in_err-argument-clause-refused : goal.returns-in_err-argument-clause-refused
returns-in_err-argument-clause-refused g c = passed _ c.in_err-argument.ensures.refused c.from_residual.ensures.1
    (λ b. no_more _ c.arguments.invariant.so_far (record { same = sym (ap place_of (c.take.ensures.stays c.arguments-test.true)); stuck = record { is = c.take.ensures.missing c.arguments-test.true } }) b)

pub returns-in_err-expect-clause-refused : goal.returns-in_err-expect-clause-refused
returns-in_err-expect-clause-refused g c = passed _ c.in_err-expect.ensures.refused c.from_residual-in_err-expect.ensures.1
    (λ b. not_closed _ of_so_far c.arguments.invariant.so_far (record { same = sym (ap place_of (c.take.ensures.stays c.arguments-test.true)); stuck = record { is = c.take.ensures.missing c.arguments-test.true } }) c.in_ok-argument.ensures.read
    (record { same = sym (ap place_of (c.take-in-arguments.ensures.stays c.if-not-take.true)); stuck = record { is = c.take-in-arguments.ensures.missing c.if-not-take.true } }) b)

pub returns-then-not-take-clause-read : goal.returns-then-not-take-clause-read
returns-then-not-take-clause-read g c = ended_behind _ _ of_so_far c.arguments.invariant.so_far (record { same = sym (ap place_of (c.take.ensures.stays c.arguments-test.true)); stuck = record { is = c.take.ensures.missing c.arguments-test.true } }) c.in_ok-argument.ensures.read
    (record { same = sym (ap place_of (c.take-in-arguments.ensures.stays c.if-not-take.true)); stuck = record { is = c.take-in-arguments.ensures.missing c.if-not-take.true } }) c.in_ok-expect.ensures.read (pushed (inside view_expr) _ _ _ c.in_ok-push.ensures.items)

pub arguments-preserved : goal.arguments-preserved
arguments-preserved g c =
    let same : left c.take.new.self ≡ left c.arguments.lexer = ap left (c.take.ensures.stays c.arguments-test.true) in
    let argument = placed_from (c.take.ensures.stays c.arguments-test.true) c.in_ok-argument.ensures.placed in
    let comma = c.take-in-arguments.ensures.takes c.if-not-take.false in
    let told_all = map_pushed (inside told_expr) c.arguments.all.items _ c.in_ok-argument.argument _ c.in_ok-push.ensures.items refl in
    let view_all = map_pushed (inside view_expr) c.arguments.all.items _ c.in_ok-argument.argument _ c.in_ok-push.ensures.items refl in
    record {
      so_far = item_more _ _ of_so_far refl c.arguments.invariant.so_far (record { same = sym (ap place_of (c.take.ensures.stays c.arguments-test.true)); stuck = record { is = c.take.ensures.missing c.arguments-test.true } }) c.in_ok-argument.ensures.read
          (record { is = c.take-in-arguments.ensures.taken c.if-not-take.false; found = refl }) (pushed (inside view_expr) _ _ _ c.in_ok-push.ensures.items);
      within = omega (arith, same, c.take-in-arguments.ensures.shorter c.if-not-take.false, c.in_ok-argument.ensures.shorter, c.arguments.invariant.within);
      placed = front_more plain_commas c.arguments.invariant.placed argument comma.same comma.leads told_all view_all;
      closed = front_last plain_commas c.arguments.invariant.placed argument comma.same (takes_trailing comma) told_all view_all;
    }

pub returns-clause-read : goal.returns-clause-read
returns-clause-read g c = ended _ of_so_far refl round c.arguments.invariant.so_far (record { is = c.take.ensures.taken c.arguments-test.false; found = refl })

pub returns-then-not-take-clause-placed : goal.returns-then-not-take-clause-placed
returns-then-not-take-clause-placed g c =
    let argument = placed_from (c.take.ensures.stays c.arguments-test.true) c.in_ok-argument.ensures.placed in
    row_list (list_to (c.take-in-arguments.ensures.stays c.if-not-take.true) (front_last plain_commas c.arguments.invariant.placed argument refl (no_trailing _ (c.take-in-arguments.ensures.missing c.if-not-take.true))
    (map_pushed (inside told_expr) c.arguments.all.items _ c.in_ok-argument.argument _ c.in_ok-push.ensures.items refl) (map_pushed (inside view_expr) c.arguments.all.items _ c.in_ok-argument.argument _ c.in_ok-push.ensures.items refl)))
    (row_sign c.in_ok-expect.ensures.takes row_end)

pub returns-clause-placed : goal.returns-clause-placed
returns-clause-placed g c = row_list c.arguments.invariant.closed (row_sign (c.take.ensures.takes c.arguments-test.false) row_end)

pub returns-clause-ended : goal.returns-clause-ended
returns-clause-ended g c = settled_token Operator Punctuator (codes ")") (place_of c.arguments.lexer) refl (sym (c.take.ensures.taken c.arguments-test.false)) refl

pub returns-then-not-take-clause-ended : goal.returns-then-not-take-clause-ended
returns-then-not-take-clause-ended g c = sign_ended c.in_ok-expect.ensures.read.past
