use Rattle.std.proofs.Common.{◌∙◌, ap, arith, sym, subst}
use Rattle.jsx_tree.specs.View.{inside, view_pat, view_target}
use Rattle.jsx_operand.specs.Turning.{Suits, binding, suits_none}
use Rattle.jsx_operand.proofs.Suiting.{suits_past, suits_whole, unbound_at}
use Rattle.jsx_operand.proofs.Turning.{all_binds}
use Rattle.jsx_operand.proofs.turn.+binds.Goals as goal

pub all_bind-loop-i-init : goal.all_bind-loop-i-init
all_bind-loop-i-init t c = suits_none

pub all_bind-loop-i-preserved : goal.all_bind-loop-i-preserved
all_bind-loop-i-preserved t c =
    suits_past (inside view_target) (inside view_pat) c.args.patterns.now c.loop-i.i c.index-patterns-i.result (omega arith) c.index-patterns-i.is c.loop-i.invariant
    (subst (λ p. Suits (view_target p) (view_pat p)) c.deref.ensures (c.binds.ensures.suits c.if-not-binds.false))

pub all_bind-returns-then-not-binds-clause-is : goal.all_bind-returns-then-not-binds-clause-is
all_bind-returns-then-not-binds-clause-is t c =
    sym (unbound_at (inside view_target) c.args.patterns.now c.loop-i.i c.index-patterns-i.result (omega arith) c.index-patterns-i.is (ap (λ p. binding (view_target p)) (sym c.deref.ensures) ∙ (sym c.binds.ensures.is ∙ c.if-not-binds.true)))

pub all_bind-returns-clause-is : goal.all_bind-returns-clause-is
all_bind-returns-clause-is t c =
    sym (all_binds (suits_whole (inside view_target) (inside view_pat) c.args.patterns.now c.loop-i.i (omega arith) c.loop-i.invariant))
