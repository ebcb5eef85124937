use Rattle.std.proofs.Common.{refl, ◌∙◌}
use Rattle.jsx_statement.proofs.Tries.{block_barred, block_deep, block_only, caught_bare, caught_named, no_body, no_caught, no_caught_bare, taken_on}
use Rattle.jsx_operand.proofs.Steps.{passed, passed_in}
use Rattle.jsx_operand.proofs.Placing.{placed_as, placed_from}
use Rattle.jsx_operand.proofs.Places.{spans_from}
use Rattle.jsx_statement.proofs.PlacedNodes.{bare_placed}
use Rattle.jsx_statement.proofs.Statements.{barred_from}
use Rattle.jsx_statement.proofs.grammar.Statements.catch_clause.Goals as goal

pub returns-in_err-catch_name-clause-refused : goal.returns-in_err-catch_name-clause-refused
returns-in_err-catch_name-clause-refused g c = passed _ c.in_err-catch_name.ensures.refused c.from_residual.ensures.1 (λ n. no_caught (record { is = c.take.ensures.taken c.if-take.true; found = refl }) n)

pub returns-then-take-clause-read : goal.returns-then-take-clause-read
returns-then-take-clause-read g c = caught_named (record { is = c.take.ensures.taken c.if-take.true; found = refl }) c.in_ok-catch_name.ensures.read

pub returns-then-take-clause-placed : goal.returns-then-take-clause-placed
returns-then-take-clause-placed g c = c.in_ok-catch_name.ensures.placed.on c.args.lexer.now (c.take.ensures.takes c.if-take.true) (c.take.ensures.begins c.if-take.true)

pub returns-in_err-expect-clause-refused : goal.returns-in_err-expect-clause-refused
returns-in_err-expect-clause-refused g c = passed _ c.in_err-expect.ensures.refused c.from_residual-in_err-expect.ensures.1
    (λ b. no_caught_bare (c.take.ensures.missing c.if-take.false) (no_body (barred_from (c.take.ensures.stays c.if-take.false) b)))

pub returns-in_err-levels-clause-refused : goal.returns-in_err-levels-clause-refused
returns-in_err-levels-clause-refused g c = passed _ c.in_err-levels.ensures.refused c.from_residual-in_err-levels.ensures.1 (λ b. no_caught_bare (c.take.ensures.missing c.if-take.false) (block_deep b))

pub returns-in_err-body-clause-refused : goal.returns-in_err-body-clause-refused
returns-in_err-body-clause-refused g c = passed_in _ c.in_ok-levels.ensures.levels c.in_err-body.ensures.refused c.from_residual-in_err-body.ensures.1
    (λ n. no_caught_bare (c.take.ensures.missing c.if-take.false) (block_barred (taken_on (c.take.ensures.stays c.if-take.false) c.in_ok-expect.ensures.takes) n))

pub returns-clause-read : goal.returns-clause-read
returns-clause-read g c = caught_bare (c.take.ensures.missing c.if-take.false) (block_only (taken_on (c.take.ensures.stays c.if-take.false) c.in_ok-expect.ensures.takes) c.in_ok-body.ensures.read) c.in_ok-catch_clause.ensures.view

pub returns-clause-placed : goal.returns-clause-placed
returns-clause-placed g c =
    placed_from (c.take.ensures.stays c.if-take.false)
    (placed_as c.in_ok-catch_clause.ensures.told c.in_ok-catch_clause.ensures.view (bare_placed (c.in_ok-body.ensures.placed.on _ c.in_ok-expect.ensures.takes c.in_ok-expect.ensures.begins) (spans_from c.span_to-span.ensures refl (c.last_place-lo.ensures ∙ c.in_ok-expect.ensures.begins) refl)))
