use Rattle.std.proofs.Common.{arith, refl, sym, ◌∙◌, ap}
use Rattle.jsx_tree.specs.View.{view_pat, word_of}
use Rattle.jsx_declaration.specs.Initials.{has_value}
use Rattle.jsx_operand.proofs.Steps.{passed}
use Rattle.jsx_declaration.proofs.Lists.{read_all, read_bare, read_first, read_more, read_none}
use Rattle.jsx_declaration.proofs.statement.more_declarators.Goals as goal

pub declarators-init : goal.declarators-init
declarators-init g c = record {
  so_far = read_first (word_of c.args.word) c.args.first.value c.in_ok-all.ensures.items;
  behind = c.requires.listed;
  within = omega arith;
}

pub returns-then-not-is_initialized-clause-refused : goal.returns-then-not-is_initialized-clause-refused
returns-then-not-is_initialized-clause-refused g c = record {
  bars = λ _ _ _. read_bare c.declarators.invariant.so_far (ap (λ p. has_value (word_of c.args.word) (view_pat p)) (sym c.deref.ensures) ∙ (sym c.is_initialized.ensures ∙ c.if-not-is_initialized.true));
}

pub returns-then-not-take-clause-read : goal.returns-then-not-take-clause-read
returns-then-not-take-clause-read g c =
    read_all c.declarators.next c.declarators.invariant.so_far c.in_ok-push.ensures.items (ap (λ p. has_value (word_of c.args.word) (view_pat p)) (sym c.deref.ensures) ∙ (sym c.is_initialized.ensures ∙ c.if-not-is_initialized.false))
    c.declarators.invariant.behind (c.take.ensures.missing c.if-not-take.true) (c.take.ensures.stays c.if-not-take.true)

pub returns-in_err-next-clause-refused : goal.returns-in_err-next-clause-refused
returns-in_err-next-clause-refused g c =
    passed _ c.in_err-next.ensures.refused c.from_residual-in_err-next.ensures.1
    (λ b. read_none c.declarators.next c.take.new.self c.declarators.invariant.so_far c.in_ok-push.ensures.items c.declarators.invariant.behind (record { is = c.take.ensures.taken c.if-not-take.false; found = refl }) b)

pub declarators-preserved : goal.declarators-preserved
declarators-preserved g c = record {
  so_far = read_more c.declarators.next c.in_ok-next.next.value c.declarators.invariant.so_far c.in_ok-push.ensures.items (ap (λ p. has_value (word_of c.args.word) (view_pat p)) (sym c.deref.ensures) ∙ (sym c.is_initialized.ensures ∙ c.if-not-is_initialized.false))
      c.declarators.invariant.behind (record { is = c.take.ensures.taken c.if-not-take.false; found = refl }) (c.take.ensures.takes c.if-not-take.false) c.in_ok-next.ensures.read c.in_ok-next.ensures.placed;
  behind = c.in_ok-next.ensures.behind;
  within = omega (arith, c.take.ensures.shorter c.if-not-take.false, c.in_ok-next.ensures.shorter, c.declarators.invariant.within);
}
