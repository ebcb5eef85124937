use Rattle.std.proofs.Common.{◌≡◌, true, false, arith, map, refl, sym, ap, subst}
use Rattle.jsx_tree.specs.Grammar.{Lines}
use Rattle.jsx_tree.specs.Told.{tales, told_prop}
use Rattle.jsx_tree.specs.View.{forest, inside}
use Rattle.jsx_tree.proofs.Rows.Lists.{begun}
use Rattle.jsx_make.specs.Members.{view_class_member}
use Rattle.jsx_token.specs.Here.{place_of, left}
use Rattle.jsx_operand.specs.SoFar.{so_far}
use Rattle.jsx_operand.specs.Spans.{IsPlacedList}
use Rattle.jsx_operand.proofs.Placing.{PlacedFront, plain_lines, front_last, front_more, front_none, list_none, map_pushed, placed_from, row_end, row_list, row_quiet, row_sign}
use Rattle.jsx_operand.proofs.Steps.{passed}
use Rattle.jsx_operand.proofs.Trees.{pushed}
use Rattle.jsx_function.proofs.ClassMembers.{brace_ended, member_barred, member_more, members_ended}
use Rattle.jsx_function.proofs.grammar.Within.class_members.Goals as goal

pub members-init : goal.members-init
members-init g c = record {
  so_far = begun _ (ap (λ xs. forest (map (inside view_class_member) xs)) c.new-all.ensures.items);
  placed = subst (λ xs. PlacedFront false Lines (map (inside told_prop) xs) (map (inside view_class_member) xs) c.args.lexer.now c.args.lexer.now) (sym c.new-all.ensures.items) front_none;
  closed = subst (λ xs. IsPlacedList Lines (tales (map (inside told_prop) xs)) (forest (map (inside view_class_member) xs)) c.args.lexer.now c.args.lexer.now) (sym c.new-all.ensures.items) list_none;
  within = omega arith;
}

pub returns-in_err-member-clause-refused : goal.returns-in_err-member-clause-refused
returns-in_err-member-clause-refused g c = passed _ c.in_err-member.ensures.refused c.from_residual.ensures.1
    (λ b. member_barred _ c.members.invariant.so_far (record { same = sym (ap place_of (c.take.ensures.stays c.members-test.true)); stuck = record { is = c.take.ensures.missing c.members-test.true } }) b)

pub members-preserved : goal.members-preserved
members-preserved g c =
    let same : left c.take.new.self ≡ left c.members.lexer = ap left (c.take.ensures.stays c.members-test.true) in
    let next = placed_from (c.take.ensures.stays c.members-test.true) c.in_ok-member.ensures.placed in
    let told_all = map_pushed (inside told_prop) c.members.all.items _ c.in_ok-member.member _ c.in_ok-push.ensures.items refl in
    let view_all = map_pushed (inside view_class_member) c.members.all.items _ c.in_ok-member.member _ c.in_ok-push.ensures.items refl in
    record {
      so_far = member_more _ _ c.members.invariant.so_far (record { same = sym (ap place_of (c.take.ensures.stays c.members-test.true)); stuck = record { is = c.take.ensures.missing c.members-test.true } }) c.in_ok-member.ensures.read (pushed (inside view_class_member) _ _ _ c.in_ok-push.ensures.items);
      within = omega (arith, same, c.in_ok-member.ensures.shorter, c.members.invariant.within);
      placed = front_more plain_lines c.members.invariant.placed next refl refl told_all view_all;
      closed = front_last plain_lines c.members.invariant.placed next refl refl told_all view_all;
    }

pub returns-clause-read : goal.returns-clause-read
returns-clause-read g c = members_ended _ c.members.invariant.so_far (record { is = c.take.ensures.taken c.members-test.false; found = refl })

pub returns-clause-placed : goal.returns-clause-placed
returns-clause-placed g c = row_quiet (λ q. refl) (row_list c.members.invariant.closed (row_quiet (λ q. refl) (row_sign (c.take.ensures.takes c.members-test.false) row_end)))

pub returns-clause-ended : goal.returns-clause-ended
returns-clause-ended g c = brace_ended {y = place_of c.members.lexer} (record { is = c.take.ensures.taken c.members-test.false; found = refl })
