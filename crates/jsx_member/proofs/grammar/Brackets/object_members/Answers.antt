use Rattle.std.proofs.Common.{◌≡◌, true, false, arith, refl, sym, ap}
use Rattle.std.specs.Prelude.{codes}
use Rattle.jsx_base.specs.Token.{Operator, Punctuator}
use Rattle.jsx_token.specs.Here.{place_of, left}
use Rattle.jsx_operand.proofs.Values.{settled_token, sign_ended}
use Rattle.jsx_operand.proofs.Steps.{passed}
use Rattle.jsx_member.proofs.ObjectLoop.{member_read, members_last, members_last_placed, members_more, members_none, members_none_here, members_shut, members_shut_placed, members_unshut}
use Rattle.jsx_member.proofs.grammar.Brackets.object_members.Goals as goal

pub members-init : goal.members-init
members-init g c = record {
  so_far = members_none c.new-all.ensures.items;
  within = omega arith;
}

pub returns-in_err-member-clause-refused : goal.returns-in_err-member-clause-refused
returns-in_err-member-clause-refused g c = passed _ c.in_err-member.ensures.refused c.from_residual.ensures.1 (λ n. members_none_here c.members.invariant.so_far (c.take.ensures.stays c.members-test.true) (c.take.ensures.missing c.members-test.true) n)

pub members-preserved : goal.members-preserved
members-preserved g c =
    let same : left c.take.new.self ≡ left c.members.lexer = ap left (c.take.ensures.stays c.members-test.true) in
    let member = member_read (c.take.ensures.stays c.members-test.true) (c.take.ensures.missing c.members-test.true) c.in_ok-member.ensures.read c.in_ok-member.ensures.placed in
    record {
      so_far = members_more c.members.invariant.so_far c.in_ok-push.ensures.items member (c.take-in-members.ensures.taken c.if-not-take.false) (c.take-in-members.ensures.takes c.if-not-take.false) refl refl;
      within = omega (arith, same, c.take-in-members.ensures.shorter c.if-not-take.false, c.in_ok-member.ensures.shorter, c.members.invariant.within);
    }

-- the last one, with no comma behind it
pub returns-in_err-expect-clause-refused : goal.returns-in_err-expect-clause-refused
returns-in_err-expect-clause-refused g c =
    let member = member_read (c.take.ensures.stays c.members-test.true) (c.take.ensures.missing c.members-test.true) c.in_ok-member.ensures.read c.in_ok-member.ensures.placed in
    passed _ c.in_err-expect.ensures.refused c.from_residual-in_err-expect.ensures.1
    (λ n. members_unshut c.members.invariant.so_far member (c.take-in-members.ensures.stays c.if-not-take.true) (c.take-in-members.ensures.missing c.if-not-take.true) n)

pub returns-then-not-take-clause-read : goal.returns-then-not-take-clause-read
returns-then-not-take-clause-read g c =
    let member = member_read (c.take.ensures.stays c.members-test.true) (c.take.ensures.missing c.members-test.true) c.in_ok-member.ensures.read c.in_ok-member.ensures.placed in
    members_last c.expect.new.lexer _ c.members_of.ensures c.members.invariant.so_far c.in_ok-push.ensures.items member (c.take-in-members.ensures.stays c.if-not-take.true) (c.take-in-members.ensures.missing c.if-not-take.true) c.in_ok-expect.ensures.read refl refl

pub returns-then-not-take-clause-placed : goal.returns-then-not-take-clause-placed
returns-then-not-take-clause-placed g c =
    let member = member_read (c.take.ensures.stays c.members-test.true) (c.take.ensures.missing c.members-test.true) c.in_ok-member.ensures.read c.in_ok-member.ensures.placed in
    members_last_placed _ c.members_of.ensures c.members.invariant.so_far c.in_ok-push.ensures.items member (c.take-in-members.ensures.stays c.if-not-take.true) (c.take-in-members.ensures.missing c.if-not-take.true) c.in_ok-expect.ensures.takes refl refl

pub returns-then-not-take-clause-ended : goal.returns-then-not-take-clause-ended
returns-then-not-take-clause-ended g c = sign_ended c.in_ok-expect.ensures.read.past

-- where nothing more stands
pub returns-clause-read : goal.returns-clause-read
returns-clause-read g c = members_shut c.take.new.self _ c.members_of-2.ensures c.members.invariant.so_far (c.take.ensures.taken c.members-test.false)

pub returns-clause-placed : goal.returns-clause-placed
returns-clause-placed g c = members_shut_placed _ c.members_of-2.ensures c.members.invariant.so_far (c.take.ensures.takes c.members-test.false)

pub returns-clause-ended : goal.returns-clause-ended
returns-clause-ended g c = settled_token Operator Punctuator (codes "}") (place_of c.members.lexer) refl (sym (c.take.ensures.taken c.members-test.false)) refl
