use Rattle.std.proofs.Common.{◌≡◌, false, arith, map, refl, sym, ap, subst}
use Rattle.jsx_tree.specs.Kinds.{From}
use Rattle.jsx_tree.specs.Grammar.{Commas}
use Rattle.jsx_tree.specs.View.{forest}
use Rattle.jsx_tree.specs.ViewProgram.{view_specifier}
use Rattle.jsx_tree.specs.Told.{tales, told_specifier}
use Rattle.jsx_token.specs.Here.{place_of, left}
use Rattle.jsx_operand.specs.Spans.{IsPlacedListAs}
use Rattle.jsx_tree.proofs.Rows.Lists.{begun}
use Rattle.jsx_operand.proofs.Steps.{passed}
use Rattle.jsx_operand.proofs.Trees.{pushed}
use Rattle.jsx_operand.proofs.Placing.{PlacedFront, plain_commas, list_none, front_none, front_more, front_last, list_to, map_pushed, placed_from}
use Rattle.jsx_operand.proofs.PlacedExpressions.{no_trailing, takes_trailing}
use Rattle.jsx_syntax.specs.Specifiers.{written}
use Rattle.jsx_syntax.proofs.PlacedItems.{specifiers_placed}
use Rattle.jsx_syntax.proofs.Specifiers.{none_more, one_more, shut, shut_behind, unshut}
use Rattle.jsx_syntax.proofs.specifier.specifiers.Goals as goal

pub specifiers-init : goal.specifiers-init
specifiers-init c = record {
  so_far = begun _ (ap written c.new-all.ensures.items);
  placed = λ side. subst (λ xs. PlacedFront false Commas (map told_specifier xs) (map (view_specifier side) xs) c.args.lexer.now c.args.lexer.now) (sym c.new-all.ensures.items) front_none;
  closed = λ side. subst (λ xs. IsPlacedListAs false Commas (tales (map told_specifier xs)) (forest (map (view_specifier side) xs)) c.args.lexer.now c.args.lexer.now) (sym c.new-all.ensures.items) list_none;
  within = omega arith;
}

pub returns-in_err-next-clause-refused : goal.returns-in_err-next-clause-refused
returns-in_err-next-clause-refused c = passed _ c.in_err-next.ensures.refused c.from_residual.ensures.1
    (λ n. none_more _ c.specifiers.invariant.so_far (record { same = sym (ap place_of (c.take.ensures.stays c.specifiers-test.true)); stuck = record { is = c.take.ensures.missing c.specifiers-test.true } }) n)

pub returns-in_err-expect-clause-refused : goal.returns-in_err-expect-clause-refused
returns-in_err-expect-clause-refused c = passed _ c.in_err-expect.ensures.refused c.from_residual-in_err-expect.ensures.1
    (λ b. unshut _ c.specifiers.invariant.so_far (record { same = sym (ap place_of (c.take.ensures.stays c.specifiers-test.true)); stuck = record { is = c.take.ensures.missing c.specifiers-test.true } }) c.in_ok-next.ensures.read
    (record { same = sym (ap place_of (c.take-in-specifiers.ensures.stays c.if-not-take.true)); stuck = record { is = c.take-in-specifiers.ensures.missing c.if-not-take.true } }) b)

pub returns-then-not-take-clause-read : goal.returns-then-not-take-clause-read
returns-then-not-take-clause-read c = shut_behind _ _ c.specifiers.invariant.so_far (record { same = sym (ap place_of (c.take.ensures.stays c.specifiers-test.true)); stuck = record { is = c.take.ensures.missing c.specifiers-test.true } }) c.in_ok-next.ensures.read
    (record { same = sym (ap place_of (c.take-in-specifiers.ensures.stays c.if-not-take.true)); stuck = record { is = c.take-in-specifiers.ensures.missing c.if-not-take.true } }) c.in_ok-expect.ensures.read (pushed (view_specifier From) _ _ _ c.in_ok-push.ensures.items)

pub specifiers-preserved : goal.specifiers-preserved
specifiers-preserved c =
    let same : left c.take.new.self ≡ left c.specifiers.lexer = ap left (c.take.ensures.stays c.specifiers-test.true) in
    let comma = c.take-in-specifiers.ensures.takes c.if-not-take.false in
    let told_all = map_pushed told_specifier c.specifiers.all.items _ c.in_ok-next.next _ c.in_ok-push.ensures.items refl in
    record {
      so_far = one_more _ _ c.specifiers.invariant.so_far (record { same = sym (ap place_of (c.take.ensures.stays c.specifiers-test.true)); stuck = record { is = c.take.ensures.missing c.specifiers-test.true } }) c.in_ok-next.ensures.read
          (record { is = c.take-in-specifiers.ensures.taken c.if-not-take.false; found = refl }) (pushed (view_specifier From) _ _ _ c.in_ok-push.ensures.items);
      within = omega (arith, same, c.take-in-specifiers.ensures.shorter c.if-not-take.false, c.in_ok-next.ensures.shorter, c.specifiers.invariant.within);
      placed = λ side. front_more plain_commas (c.specifiers.invariant.placed side) (placed_from (c.take.ensures.stays c.specifiers-test.true) (c.in_ok-next.ensures.placed side)) comma.same comma.leads told_all (map_pushed (view_specifier side) c.specifiers.all.items _ c.in_ok-next.next _ c.in_ok-push.ensures.items refl);
      closed = λ side. front_last plain_commas (c.specifiers.invariant.placed side) (placed_from (c.take.ensures.stays c.specifiers-test.true) (c.in_ok-next.ensures.placed side)) comma.same (takes_trailing comma) told_all (map_pushed (view_specifier side) c.specifiers.all.items _ c.in_ok-next.next _ c.in_ok-push.ensures.items refl);
    }

pub returns-clause-read : goal.returns-clause-read
returns-clause-read c = shut _ c.specifiers.invariant.so_far (record { is = c.take.ensures.taken c.specifiers-test.false; found = refl })

pub returns-then-not-take-clause-placed : goal.returns-then-not-take-clause-placed
returns-then-not-take-clause-placed c =
    λ side. specifiers_placed side (list_to (c.take-in-specifiers.ensures.stays c.if-not-take.true) (front_last plain_commas (c.specifiers.invariant.placed side) (placed_from (c.take.ensures.stays c.specifiers-test.true) (c.in_ok-next.ensures.placed side)) refl (no_trailing _ (c.take-in-specifiers.ensures.missing c.if-not-take.true))
    (map_pushed told_specifier c.specifiers.all.items _ c.in_ok-next.next _ c.in_ok-push.ensures.items refl) (map_pushed (view_specifier side) c.specifiers.all.items _ c.in_ok-next.next _ c.in_ok-push.ensures.items refl)))
    c.in_ok-expect.ensures.takes

pub returns-clause-placed : goal.returns-clause-placed
returns-clause-placed c = λ side. specifiers_placed side (c.specifiers.invariant.closed side) (c.take.ensures.takes c.specifiers-test.false)
