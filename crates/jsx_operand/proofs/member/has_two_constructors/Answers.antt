use Rattle.std.proofs.Common.{◌+◌, sym, ◌∙◌, ap, subst, arith}
use Rattle.std.specs.Prelude.{◌&&◌, ◌||◌}
use Rattle.jsx_tree.specs.StaticRules.{is_constructor}
use Rattle.jsx_tree.specs.View.{inside}
use Rattle.jsx_make.specs.Members.{view_class_member}
use Rattle.jsx_operand.proofs.Protos.{Counts, counts_begin, counts_few, counts_past, counts_two}
use Rattle.jsx_operand.proofs.member.has_two_constructors.Goals as goal

pub loop-i-init : goal.loop-i-init
loop-i-init c = counts_begin is_constructor (inside view_class_member) c.args.members.now

pub loop-i-preserved : goal.loop-i-preserved
loop-i-preserved c =
    subst (λ h. Counts is_constructor (inside view_class_member) c.args.members.now h (c.loop-i.i + 1)) (sym (c.has_constructor-had_constructor.ensures ∙ ap (λ m. c.loop-i.had_constructor || is_constructor (view_class_member m)) c.deref-in-loop-i.ensures))
    (counts_past is_constructor (inside view_class_member) c.args.members.now c.loop-i.had_constructor c.loop-i.i c.index-members-i.result (omega arith) c.index-members-i.is (ap (λ m. c.loop-i.had_constructor && is_constructor (view_class_member m)) (sym c.deref.ensures) ∙ (sym c.is_second.ensures ∙ c.if-is_second.false)) c.loop-i.invariant)

pub returns-then-is_second : goal.returns-then-is_second
returns-then-is_second c =
    counts_two is_constructor (inside view_class_member) c.args.members.now c.loop-i.had_constructor c.loop-i.i c.index-members-i.result (omega arith) c.index-members-i.is (ap (λ m. c.loop-i.had_constructor && is_constructor (view_class_member m)) (sym c.deref.ensures) ∙ (sym c.is_second.ensures ∙ c.if-is_second.true)) c.loop-i.invariant

pub returns : goal.returns
returns c = counts_few is_constructor (inside view_class_member) c.args.members.now c.loop-i.had_constructor c.loop-i.i (omega arith) c.loop-i.invariant
