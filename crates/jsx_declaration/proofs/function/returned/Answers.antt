use Rattle.std.proofs.Common.{refl, sym, ap}
use Rattle.jsx_token.specs.Here.{place_of}
use Rattle.jsx_operand.proofs.Placing.{placed_from, takes_ends}
use Rattle.jsx_operand.proofs.Steps.{passed}
use Rattle.jsx_declaration.proofs.Returns.{no_value, no_value_placed, on_its_line, some_value, unended_value, unread_value, value_placed}
use Rattle.jsx_declaration.proofs.function.returned.Goals as goal

pub returns-then-semicolon-clause-read : goal.returns-then-semicolon-clause-read
returns-then-semicolon-clause-read g c = no_value (record { is = ap place_of c.ends.ensures; found = refl }) (record { is = c.semicolon.ensures.taken c.if-semicolon.true; found = refl })

pub returns-then-semicolon-clause-placed : goal.returns-then-semicolon-clause-placed
returns-then-semicolon-clause-placed g c = no_value_placed (takes_ends c.ends.ensures) (c.semicolon.ensures.takes c.if-semicolon.true)

pub returns-in_err-value-clause-refused : goal.returns-in_err-value-clause-refused
returns-in_err-value-clause-refused g c = passed _ c.in_err-value.ensures.refused c.from_residual.ensures.1
    (λ b. unread_value (record { is = ap place_of c.ends.ensures; found = refl }) (record { same = sym (ap place_of (c.semicolon.ensures.stays c.if-semicolon.false)); stuck = record { is = c.semicolon.ensures.missing c.if-semicolon.false } }) b)

pub returns-in_err-semicolon-clause-refused : goal.returns-in_err-semicolon-clause-refused
returns-in_err-semicolon-clause-refused g c = passed _ c.in_err-semicolon.ensures.refused c.from_residual-in_err-semicolon.ensures.1
    (λ b. unended_value (record { is = ap place_of c.ends.ensures; found = refl }) (record { same = sym (ap place_of (c.semicolon.ensures.stays c.if-semicolon.false)); stuck = record { is = c.semicolon.ensures.missing c.if-semicolon.false } }) c.in_ok-value.ensures.read b)

pub returns-clause-read : goal.returns-clause-read
returns-clause-read g c =
    some_value (record { is = ap place_of c.ends.ensures; found = refl }) (record { same = sym (ap place_of (c.semicolon.ensures.stays c.if-semicolon.false)); stuck = record { is = c.semicolon.ensures.missing c.if-semicolon.false } }) c.in_ok-value.ensures.read c.in_ok-semicolon.ensures.read

pub returns-clause-placed : goal.returns-clause-placed
returns-clause-placed g c = value_placed (takes_ends c.ends.ensures) (on_its_line (record { is = ap place_of c.ends.ensures; found = refl }) (returns-clause-read g c)) (placed_from (c.semicolon.ensures.stays c.if-semicolon.false) c.in_ok-value.ensures.placed) c.in_ok-semicolon.ensures.takes
