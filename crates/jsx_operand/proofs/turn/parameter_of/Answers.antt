use Rattle.std.proofs.Common.{◌∙◌, ap, sym}
use Rattle.jsx_tree.specs.View.{view_target}
use Rattle.jsx_operand.specs.Turning.{binding}
use Rattle.jsx_operand.proofs.Suiting.{parameter_unbound}
use Rattle.jsx_operand.proofs.turn.parameter_of.Goals as goal

pub returns-then-not-binds-clause-refused : goal.returns-then-not-binds-clause-refused
returns-then-not-binds-clause-refused c = record {
  bars = λ at e _. parameter_unbound {c = c.args.cover} {p = view_target c.in_ok-pattern.pattern.value} c.in_ok-pattern.ensures.read (ap (λ p. binding (view_target p)) (sym c.deref.ensures) ∙ (sym c.binds.ensures.is ∙ c.if-not-binds.true));
}
