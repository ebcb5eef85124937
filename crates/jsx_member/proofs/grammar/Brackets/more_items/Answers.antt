use Rattle.std.proofs.Common.{◌≡◌, ◌++◌, true, false, arith, refl, sym, ◌∙◌, ap, subst, [], ◌∷◌}
use Rattle.jsx_operand.specs.SoFar.{so_far}
use Rattle.jsx_token.specs.Here.{place_of}
use Rattle.jsx_make.specs.NodeSpans.{expr_at}
use Rattle.jsx_token.specs.Growths.{closed}
use Rattle.jsx_operand.specs.Spans.{Spans}
use Rattle.jsx_token.specs.Places.{end_of}
use Rattle.jsx_tree.proofs.Rows.Steps.{on}
use Rattle.jsx_tree.proofs.Rows.Lists.{ended}
use Rattle.jsx_operand.proofs.Steps.{passed}
use Rattle.jsx_member.proofs.Elements.{items}
use Rattle.jsx_member.proofs.Gatherings.{gathered_all, gathered_alone, gathered_none, gathers_more, gathers_one}
use Rattle.jsx_member.proofs.grammar.Brackets.more_items.Goals as goal

pub returns-then-not-take-clause-read : goal.returns-then-not-take-clause-read
returns-then-not-take-clause-read g c = gathered_alone (c.take.ensures.stays c.if-not-take.true) c.requires.settled (c.take.ensures.missing c.if-not-take.true)

pub returns-then-not-take-clause-ended : goal.returns-then-not-take-clause-ended
returns-then-not-take-clause-ended g c = subst (λ h. closed (place_of h) ≡ true) (sym (c.take.ensures.stays c.if-not-take.true)) c.requires.settled

pub items-init : goal.items-init
items-init g c = record {
  so_far = gathers_one c.args.first (c.in_ok-push.ensures.items ∙ ap (λ xs. xs ++ c.args.first ∷ []) c.in_ok-all.ensures.items)
      (λ n s. c.start_of-lo.ensures.on _ _ (subst (λ e. Spans (expr_at e) n (end_of c.args.lexer.now)) (sym c.deref.ensures) s)) c.requires.settled (record { is = c.take.ensures.taken c.if-not-take.false; found = refl }) (c.take.ensures.takes c.if-not-take.false);
  within = omega (arith, c.take.ensures.shorter c.if-not-take.false);
}

pub returns-in_err-next-clause-refused : goal.returns-in_err-next-clause-refused
returns-in_err-next-clause-refused g c = passed _ c.in_err-next.ensures.refused c.from_residual-in_err-next.ensures.1 (λ b. gathered_none c.items.invariant.so_far b)

pub items-preserved : goal.items-preserved
items-preserved g c = record {
  so_far = gathers_more c.in_ok-next.next c.items.invariant.so_far c.in_ok-push-2.ensures.items c.in_ok-next.ensures.read c.in_ok-next.ensures.ended c.in_ok-next.ensures.placed (record { is = c.take-in-items.ensures.taken c.if-not-take-2.false; found = refl }) (c.take-in-items.ensures.takes c.if-not-take-2.false);
  within = omega (arith, c.take-in-items.ensures.shorter c.if-not-take-2.false, c.in_ok-next.ensures.shorter, c.items.invariant.within);
}

pub returns-then-not-take-2-clause-read : goal.returns-then-not-take-2-clause-read
returns-then-not-take-2-clause-read g c =
    gathered_all c.in_ok-next.next c.items.invariant.so_far c.in_ok-push-2.ensures.items c.in_ok-next.ensures.read c.in_ok-next.ensures.ended c.in_ok-next.ensures.placed (c.take-in-items.ensures.missing c.if-not-take-2.true) (c.take-in-items.ensures.stays c.if-not-take-2.true)
    c.in_ok-sequence.ensures.view c.in_ok-sequence.ensures.told c.in_ok-sequence.ensures.span c.span_to.ensures

pub returns-then-not-take-2-clause-ended : goal.returns-then-not-take-2-clause-ended
returns-then-not-take-2-clause-ended g c = subst (λ h. closed (place_of h) ≡ true) (sym (c.take-in-items.ensures.stays c.if-not-take-2.true)) c.in_ok-next.ensures.ended

-- ---- templates
