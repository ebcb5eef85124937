use Rattle.std.proofs.Common.{refl, ◌∙◌, ap}
use Rattle.std.specs.Str.{chars}
use Rattle.jsx_token.specs.Places.{next_of}
use Rattle.jsx_operand.proofs.Placing.{leaf_is, row_end, row_part, row_sign, takes_from}
use Rattle.jsx_operand.proofs.Steps.{passed}
use Rattle.jsx_statement.proofs.Directives.{directive_there_is, no_end, no_text}
use Rattle.jsx_statement.proofs.body.take_directive.Goals as goal

pub returns-in_default-clause-missing : goal.returns-in_default-clause-missing
returns-in_default-clause-missing c = no_text c.fork-ahead.ensures c.in_default.ensures.missing

pub returns-then-not-semicolon-clause-missing : goal.returns-then-not-semicolon-clause-missing
returns-then-not-semicolon-clause-missing c = no_end c.leaf.new.self (chars c.in-Some.raw.now) c.fork-ahead.ensures c.in-Some.ensures.taken (c.semicolon.ensures.missing c.if-not-semicolon.true)

pub returns-clause-taken : goal.returns-clause-taken
returns-clause-taken c = directive_there_is c.leaf.new.self c.semicolon.new.self (chars c.in-Some.raw.now) c.fork-ahead.ensures c.in-Some.ensures.whole c.in-Some.ensures.taken (c.semicolon.ensures.taken c.if-not-semicolon.false)

pub returns-clause-placed : goal.returns-clause-placed
returns-clause-placed c = row_part (leaf_is refl refl refl (c.last_place-at.ensures ∙ (c.in-Some.ensures.begins ∙ ap next_of c.fork-ahead.ensures), tt) (takes_from c.fork-ahead.ensures c.in-Some.ensures.takes)) (row_sign (c.semicolon.ensures.takes c.if-not-semicolon.false) row_end)

pub returns-in_err-within_at-clause-refused : goal.returns-in_err-within_at-clause-refused
returns-in_err-within_at-clause-refused c = passed _ c.in_err-within_at.ensures.refused c.from_residual.ensures.1
    (λ b. record { below = b; directive = _; behind = _; first = directive_there_is c.leaf.new.self c.semicolon.new.self (chars c.in-Some.raw.now) c.fork-ahead.ensures c.in-Some.ensures.whole c.in-Some.ensures.taken (c.semicolon.ensures.taken c.if-not-semicolon.false) })
