use Rattle.std.proofs.Common.{◌≡◌, true, false, arith, refl, sym, ap}
use Rattle.std.specs.Prelude.{codes}
use Rattle.jsx_base.specs.Token.{Operator, Punctuator}
use Rattle.jsx_token.specs.Here.{place_of, left}
use Rattle.jsx_operand.proofs.Values.{settled_token, sign_ended}
use Rattle.jsx_operand.proofs.Steps.{passed}
use Rattle.jsx_member.proofs.ArrayLoop.{item_read, items_hole, items_last, items_last_placed, items_more, items_none, items_none_here, items_shut, items_shut_placed, items_unshut}
use Rattle.jsx_member.proofs.grammar.Brackets.array_items.Goals as goal

pub items-init : goal.items-init
items-init g c = record {
  so_far = items_none c.new-all.ensures.items;
  within = omega arith;
}

-- a hole
pub items-preserved-in-Continue-branch-2 : goal.items-preserved-in-Continue-branch-2
items-preserved-in-Continue-branch-2 g c =
    let same : left c.take.new.self ≡ left c.items.lexer = ap left (c.take.ensures.stays c.items-test.true) in
    record {
      so_far = items_hole _ c.items.invariant.so_far c.in_ok-push.ensures.items c.in_ok-hole.ensures.view c.in_ok-hole.ensures.told (c.take.ensures.stays c.items-test.true) (c.take.ensures.missing c.items-test.true)
          (c.take-in-items.ensures.taken c.if-take.true) (c.take-in-items.ensures.takes c.if-take.true);
      within = omega (arith, same, c.take-in-items.ensures.shorter c.if-take.true, c.items.invariant.within);
    }

-- an item
pub returns-in_err-item-clause-refused : goal.returns-in_err-item-clause-refused
returns-in_err-item-clause-refused g c = passed _ c.in_err-item.ensures.refused c.from_residual-in_err-item.ensures.1
    (λ n. items_none_here c.items.invariant.so_far (c.take.ensures.stays c.items-test.true) (c.take-in-items.ensures.stays c.if-take.false) (c.take.ensures.missing c.items-test.true) (c.take-in-items.ensures.missing c.if-take.false) n)

pub items-preserved : goal.items-preserved
items-preserved g c =
    let same : left c.take.new.self ≡ left c.items.lexer = ap left (c.take.ensures.stays c.items-test.true) in
    let same' : left c.take-in-items.new.self ≡ left c.take.new.self = ap left (c.take-in-items.ensures.stays c.if-take.false) in
    let item = item_read (c.take.ensures.stays c.items-test.true) (c.take-in-items.ensures.stays c.if-take.false) (c.take.ensures.missing c.items-test.true) (c.take-in-items.ensures.missing c.if-take.false) c.in_ok-item.ensures.read c.in_ok-item.ensures.placed in
    record {
      so_far = items_more c.items.invariant.so_far c.in_ok-push-2.ensures.items item (c.take-else-take.ensures.taken c.if-not-take.false) (c.take-else-take.ensures.takes c.if-not-take.false) refl refl;
      within = omega (arith, same, same', c.take-else-take.ensures.shorter c.if-not-take.false, c.in_ok-item.ensures.shorter, c.items.invariant.within);
    }

-- the last one, with no comma behind it
pub returns-in_err-expect-clause-refused : goal.returns-in_err-expect-clause-refused
returns-in_err-expect-clause-refused g c =
    let item = item_read (c.take.ensures.stays c.items-test.true) (c.take-in-items.ensures.stays c.if-take.false) (c.take.ensures.missing c.items-test.true) (c.take-in-items.ensures.missing c.if-take.false) c.in_ok-item.ensures.read c.in_ok-item.ensures.placed in
    passed _ c.in_err-expect.ensures.refused c.from_residual-in_err-expect.ensures.1
    (λ n. items_unshut c.items.invariant.so_far item (c.take-else-take.ensures.stays c.if-not-take.true) (c.take-else-take.ensures.missing c.if-not-take.true) n)

pub returns-then-not-take-clause-read : goal.returns-then-not-take-clause-read
returns-then-not-take-clause-read g c =
    let item = item_read (c.take.ensures.stays c.items-test.true) (c.take-in-items.ensures.stays c.if-take.false) (c.take.ensures.missing c.items-test.true) (c.take-in-items.ensures.missing c.if-take.false) c.in_ok-item.ensures.read c.in_ok-item.ensures.placed in
    items_last c.expect.new.lexer _ c.items_of.ensures c.items.invariant.so_far c.in_ok-push-2.ensures.items item (c.take-else-take.ensures.stays c.if-not-take.true) (c.take-else-take.ensures.missing c.if-not-take.true) c.in_ok-expect.ensures.read refl refl

pub returns-then-not-take-clause-placed : goal.returns-then-not-take-clause-placed
returns-then-not-take-clause-placed g c =
    let item = item_read (c.take.ensures.stays c.items-test.true) (c.take-in-items.ensures.stays c.if-take.false) (c.take.ensures.missing c.items-test.true) (c.take-in-items.ensures.missing c.if-take.false) c.in_ok-item.ensures.read c.in_ok-item.ensures.placed in
    items_last_placed _ c.items_of.ensures c.items.invariant.so_far c.in_ok-push-2.ensures.items item (c.take-else-take.ensures.stays c.if-not-take.true) (c.take-else-take.ensures.missing c.if-not-take.true) c.in_ok-expect.ensures.takes refl refl

pub returns-then-not-take-clause-ended : goal.returns-then-not-take-clause-ended
returns-then-not-take-clause-ended g c = sign_ended c.in_ok-expect.ensures.read.past

-- where nothing more stands
pub returns-clause-read : goal.returns-clause-read
returns-clause-read g c = items_shut c.take.new.self _ c.items_of-2.ensures c.items.invariant.so_far (c.take.ensures.taken c.items-test.false)

pub returns-clause-placed : goal.returns-clause-placed
returns-clause-placed g c = items_shut_placed _ c.items_of-2.ensures c.items.invariant.so_far (c.take.ensures.takes c.items-test.false)

pub returns-clause-ended : goal.returns-clause-ended
returns-clause-ended g c = settled_token Operator Punctuator (codes "]") (place_of c.items.lexer) refl (sym (c.take.ensures.taken c.items-test.false)) refl
