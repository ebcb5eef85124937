use Rattle.std.proofs.Common.{true, false, refl, sym, ap}
use Rattle.jsx_token.specs.Here.{place_of}
use Rattle.jsx_operand.proofs.Placing.{takes_ends}
use Rattle.jsx_operand.proofs.Steps.{passed}
use Rattle.jsx_function.proofs.Fields.{field_bare, field_bare_placed, field_unended, field_unread, field_value_unended, field_valued, field_valued_placed}
use Rattle.jsx_function.proofs.grammar.Within.own_field.Goals as goal

-- without a value
pub returns-in_err-semicolon-clause-refused : goal.returns-in_err-semicolon-clause-refused
returns-in_err-semicolon-clause-refused g c = passed _ c.in_err-semicolon.ensures.refused c.from_residual.ensures.1
    (λ b. field_unended (record { is = ap place_of c.ends.ensures; found = refl }) (record { same = sym (ap place_of (c.take.ensures.stays c.if-not-take.true)); stuck = record { is = c.take.ensures.missing c.if-not-take.true } }) b)

pub returns-then-not-take-clause-read : goal.returns-then-not-take-clause-read
returns-then-not-take-clause-read g c =
    field_bare (record { is = ap place_of c.ends.ensures; found = refl }) (record { same = sym (ap place_of (c.take.ensures.stays c.if-not-take.true)); stuck = record { is = c.take.ensures.missing c.if-not-take.true } }) c.in_ok-semicolon.ensures.read

pub returns-then-not-take-clause-placed : goal.returns-then-not-take-clause-placed
returns-then-not-take-clause-placed g c = field_bare_placed (takes_ends c.ends.ensures) (c.take.ensures.stays c.if-not-take.true) c.in_ok-semicolon.ensures.takes

-- with one
pub returns-in_err-value-clause-refused : goal.returns-in_err-value-clause-refused
returns-in_err-value-clause-refused g c = passed _ c.in_err-value.ensures.refused c.from_residual-in_err-value.ensures.1 (λ b. field_unread (record { is = ap place_of c.ends.ensures; found = refl }) (record { is = c.take.ensures.taken c.if-not-take.false; found = refl }) b)

pub returns-in_err-semicolon-2-clause-refused : goal.returns-in_err-semicolon-2-clause-refused
returns-in_err-semicolon-2-clause-refused g c = passed _ c.in_err-semicolon-2.ensures.refused c.from_residual-in_err-semicolon-2.ensures.1
    (λ b. field_value_unended (record { is = ap place_of c.ends.ensures; found = refl }) (record { is = c.take.ensures.taken c.if-not-take.false; found = refl }) c.in_ok-value.ensures.read b)

pub returns-clause-read : goal.returns-clause-read
returns-clause-read g c = field_valued (record { is = ap place_of c.ends.ensures; found = refl }) (record { is = c.take.ensures.taken c.if-not-take.false; found = refl }) c.in_ok-value.ensures.read c.in_ok-semicolon-2.ensures.read

pub returns-clause-placed : goal.returns-clause-placed
returns-clause-placed g c = field_valued_placed (takes_ends c.ends.ensures) (c.take.ensures.takes c.if-not-take.false) c.in_ok-value.ensures.placed c.in_ok-semicolon-2.ensures.takes
