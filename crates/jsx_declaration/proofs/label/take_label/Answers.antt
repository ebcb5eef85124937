use Rattle.std.proofs.Common.{not, refl, sym, ◌∙◌, ap}
use Rattle.std.specs.Str.{chars}
use Rattle.jsx_tree.proofs.Apart.{clash}
use Rattle.jsx_token.specs.Places.{next_of}
use Rattle.jsx_operand.proofs.Placing.{takes_from}
use Rattle.jsx_declaration.proofs.Labels.{label_there, no_name, other_name}
use Rattle.jsx_declaration.proofs.label.take_label.Goals as goal

pub returns-in_default-clause-missing : goal.returns-in_default-clause-missing
returns-in_default-clause-missing c = no_name c.fork-ahead.ensures c.in_default.ensures.missing

pub returns-then-is_reserved-clause-missing : goal.returns-then-is_reserved-clause-missing
returns-then-is_reserved-clause-missing c = other_name (chars c.in-Some.name.now) c.fork-ahead.ensures c.in-Some.ensures.taken refl (λ f. absurd (clash _ f (ap not (sym c.is_reserved.ensures ∙ c.if-is_reserved.true))))

pub returns-then-not-take-clause-missing : goal.returns-then-not-take-clause-missing
returns-then-not-take-clause-missing c = other_name (chars c.in-Some.name.now) c.fork-ahead.ensures c.in-Some.ensures.taken refl (λ f. c.take.ensures.missing c.if-not-take.true)

pub returns-clause-taken : goal.returns-clause-taken
returns-clause-taken c = label_there (chars c.in-Some.name.now) c.fork-ahead.ensures c.in-Some.ensures.taken refl (c.take.ensures.taken c.if-not-take.false) refl (ap not (sym c.is_reserved.ensures ∙ c.if-is_reserved.false)) c.in-Some.ensures.whole

pub returns-clause-takes : goal.returns-clause-takes
returns-clause-takes c = record { between = _; takes_name = takes_from c.fork-ahead.ensures c.in-Some.ensures.takes; takes_colon = c.take.ensures.takes c.if-not-take.false }

pub returns-clause-place : goal.returns-clause-place
returns-clause-place c = c.last_place-place.ensures ∙ (c.in-Some.ensures.begins ∙ ap next_of c.fork-ahead.ensures)
