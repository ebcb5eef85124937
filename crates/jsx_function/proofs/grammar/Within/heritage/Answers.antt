use Rattle.std.proofs.Common.{true, false, refl, ap}
use Rattle.jsx_token.specs.Here.{place_of}
use Rattle.jsx_function.proofs.Inside.{passed_as}
use Rattle.jsx_function.proofs.Classes.{barred_in, extended_plain, heritage_absent, heritage_absent_placed, heritage_none, heritage_placed, heritage_present, only_in}
use Rattle.jsx_function.proofs.grammar.Within.heritage.Goals as goal

pub returns-then-not-take-clause-read : goal.returns-then-not-take-clause-read
returns-then-not-take-clause-read g c = heritage_absent (ap place_of (c.take.ensures.stays c.if-not-take.true)) (c.take.ensures.missing c.if-not-take.true)

pub returns-then-not-take-clause-placed : goal.returns-then-not-take-clause-placed
returns-then-not-take-clause-placed g c = heritage_absent_placed (c.take.ensures.stays c.if-not-take.true)

pub returns-in_err-extended-clause-refused : goal.returns-in_err-extended-clause-refused
returns-in_err-extended-clause-refused g c = passed_as _ c.of_class.ensures.levels c.in_err-extended.ensures.refused c.from_residual.ensures.1 (λ b. heritage_none (record { is = c.take.ensures.taken c.if-not-take.false; found = refl }) (barred_in c.of_class.ensures.around b))

pub returns-clause-read : goal.returns-clause-read
returns-clause-read g c = heritage_present (record { is = c.take.ensures.taken c.if-not-take.false; found = refl }) (only_in c.of_class.ensures.around c.in_ok-extended.ensures.read)

pub returns-clause-plain : goal.returns-clause-plain
returns-clause-plain g c = extended_plain c.in_ok-extended.extended.value c.in_ok-extended.ensures.read

pub returns-clause-placed : goal.returns-clause-placed
returns-clause-placed g c = heritage_placed (c.take.ensures.takes c.if-not-take.false) c.in_ok-extended.ensures.placed
