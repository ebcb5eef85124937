use Rattle.std.proofs.Common.{◌<◌, true, false, ◌∙◌, ap, subst}
use Rattle.jsx_token.specs.Here.{left}
use Rattle.jsx_token.specs.Places.{next_of}
use Rattle.jsx_operand.proofs.Placing.{takes_from}
use Rattle.jsx_function.proofs.Prefixes.{lone_word, no_word, prefix}
use Rattle.jsx_function.proofs.method.take_prefix.Goals as goal

pub returns-then-not-take-clause-missing : goal.returns-then-not-take-clause-missing
returns-then-not-take-clause-missing c = λ _. no_word c.fork-ahead.ensures (c.take.ensures.missing c.if-not-take.true)

pub returns-then-not-is_before_key-clause-missing : goal.returns-then-not-is_before_key-clause-missing
returns-then-not-is_before_key-clause-missing c = λ _. lone_word c.fork-ahead.ensures (c.take.ensures.taken c.if-not-take.false) (c.is_before_key.ensures.none c.if-not-is_before_key.true)

pub returns-clause-taken : goal.returns-clause-taken
returns-clause-taken c = λ _. prefix c.take.new.self c.fork-ahead.ensures (c.take.ensures.taken c.if-not-take.false) (c.is_before_key.ensures.there c.if-not-is_before_key.false)

pub returns-clause-takes : goal.returns-clause-takes
returns-clause-takes c = λ _. takes_from c.fork-ahead.ensures (c.take.ensures.takes c.if-not-take.false)

pub returns-clause-begins : goal.returns-clause-begins
returns-clause-begins c = λ _. c.take.ensures.begins c.if-not-take.false ∙ ap next_of c.fork-ahead.ensures

pub returns-clause-shorter : goal.returns-clause-shorter
returns-clause-shorter c = λ _. subst (λ h. left c.take.new.self < left h) c.fork-ahead.ensures (c.take.ensures.shorter c.if-not-take.false)
