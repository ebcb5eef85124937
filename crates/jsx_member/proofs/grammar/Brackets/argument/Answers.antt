use Rattle.std.proofs.Common.{true, false, refl, sym, ap}
use Rattle.jsx_token.specs.Here.{place_of}
use Rattle.jsx_tree.proofs.Rows.Steps.{on}
use Rattle.jsx_operand.proofs.Steps.{passed}
use Rattle.jsx_member.proofs.Arguments.{argument_placed, spread_argument}
use Rattle.jsx_member.proofs.Elements.{arguments, expression_item, no_expression_item, spread_item, no_spread_item, argument_only, argument_as, argument_barred}
use Rattle.jsx_operand.proofs.Homes.{never_list}
use Rattle.jsx_operand.proofs.Placing.{placed_as, placed_from}
use Rattle.jsx_member.proofs.grammar.Brackets.argument.Goals as goal

pub returns-in_err-argument-clause-refused : goal.returns-in_err-argument-clause-refused
returns-in_err-argument-clause-refused g c = passed _ c.in_err-argument.ensures.refused c.from_residual-in_err-argument.ensures.1
    (λ b. argument_barred (no_expression_item arguments (record { same = sym (ap place_of (c.take.ensures.stays c.if-take.false)); stuck = record { is = c.take.ensures.missing c.if-take.false } }) b))

pub returns-clause-read : goal.returns-clause-read
returns-clause-read g c = argument_as c.place_argument.ensures.view (argument_only (expression_item arguments (record { same = sym (ap place_of (c.take.ensures.stays c.if-take.false)); stuck = record { is = c.take.ensures.missing c.if-take.false } }) c.in_ok-argument.ensures.read))

pub returns-clause-placed : goal.returns-clause-placed
returns-clause-placed g c = placed_from (c.take.ensures.stays c.if-take.false)
    (placed_as c.place_argument.ensures.told c.place_argument.ensures.view (argument_placed _ _ (λ ts e. never_list c.in_ok-argument.ensures.read ts e) c.in_ok-argument.ensures.placed c.in_ok-argument.ensures.span))

pub returns-in_err-spread-clause-refused : goal.returns-in_err-spread-clause-refused
returns-in_err-spread-clause-refused g c = passed _ c.in_err-spread.ensures.refused c.from_residual.ensures.1 (λ b. argument_barred (no_spread_item arguments (record { is = c.take.ensures.taken c.if-take.true; found = refl }) b))

pub returns-then-take-clause-read : goal.returns-then-take-clause-read
returns-then-take-clause-read g c = argument_only (spread_item arguments (record { is = c.take.ensures.taken c.if-take.true; found = refl }) c.in_ok-spread.ensures.read)

pub returns-then-take-clause-placed : goal.returns-then-take-clause-placed
returns-then-take-clause-placed g c = spread_argument c.in_ok-spread.ensures.read.is
    (c.in_ok-spread.ensures.placed.on _ (c.take.ensures.takes c.if-take.true) (c.take.ensures.begins c.if-take.true))
