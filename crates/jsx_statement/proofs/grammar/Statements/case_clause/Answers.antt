use Rattle.std.proofs.Common.{refl, ◌∙◌}
use Rattle.jsx_statement.proofs.Cases.{case_is, case_word, deep_case, default_is, no_case, no_clause, no_colon, no_default, no_test, none_inner}
use Rattle.jsx_operand.proofs.Steps.{passed, passed_in}
use Rattle.jsx_operand.proofs.Placing.{placed_as, placed_from}
use Rattle.jsx_operand.proofs.Places.{spans_from}
use Rattle.jsx_statement.proofs.PlacedNodes.{case_placed}
use Rattle.jsx_statement.proofs.Statements.{barred_from}
use Rattle.jsx_statement.proofs.grammar.Statements.case_clause.Goals as goal

pub returns-in_err-levels-clause-refused : goal.returns-in_err-levels-clause-refused
returns-in_err-levels-clause-refused g c = passed _ c.in_err-levels.ensures.refused c.from_residual.ensures.1 (λ b. deep_case b)

pub returns-in_err-levels-2-clause-refused : goal.returns-in_err-levels-2-clause-refused
returns-in_err-levels-2-clause-refused g c = passed _ c.in_err-levels-2.ensures.refused c.from_residual-in_err-levels-2.ensures.1 (λ b. deep_case b)

pub returns-in_err-default_clause-clause-refused : goal.returns-in_err-default_clause-clause-refused
returns-in_err-default_clause-clause-refused g c = passed_in _ c.in_ok-levels.ensures.levels c.in_err-default_clause.ensures.refused c.from_residual-in_err-default_clause.ensures.1 (λ n. no_default (record { is = c.take.ensures.taken c.if-take.true; found = refl }) n)

pub returns-then-take-clause-read : goal.returns-then-take-clause-read
returns-then-take-clause-read g c = default_is (record { is = c.take.ensures.taken c.if-take.true; found = refl }) c.in_ok-default_clause.ensures.read

pub returns-then-take-clause-placed : goal.returns-then-take-clause-placed
returns-then-take-clause-placed g c = c.in_ok-default_clause.ensures.placed.on c.args.lexer.now (c.take.ensures.takes c.if-take.true) (c.take.ensures.begins c.if-take.true)

pub returns-in_err-expect-clause-refused : goal.returns-in_err-expect-clause-refused
returns-in_err-expect-clause-refused g c = passed _ c.in_err-expect.ensures.refused c.from_residual-in_err-expect.ensures.1 (λ b. no_clause (c.take.ensures.missing c.if-take.false) (barred_from (c.take.ensures.stays c.if-take.false) b))

pub returns-in_err-test-clause-refused : goal.returns-in_err-test-clause-refused
returns-in_err-test-clause-refused g c = passed_in _ c.in_ok-levels-2.ensures.levels c.in_err-test.ensures.refused c.from_residual-in_err-test.ensures.1 (λ b. no_case (case_word (c.take.ensures.stays c.if-take.false) c.in_ok-expect.ensures.takes) (no_test b))

pub returns-in_err-expect-2-clause-refused : goal.returns-in_err-expect-2-clause-refused
returns-in_err-expect-2-clause-refused g c = passed_in _ c.in_ok-levels-2.ensures.levels c.in_err-expect-2.ensures.refused c.from_residual-in_err-expect-2.ensures.1 (λ b. no_case (case_word (c.take.ensures.stays c.if-take.false) c.in_ok-expect.ensures.takes) (no_colon c.in_ok-test.ensures.read b))

pub returns-in_err-body-clause-refused : goal.returns-in_err-body-clause-refused
returns-in_err-body-clause-refused g c = passed_in _ c.in_ok-levels-2.ensures.levels c.in_err-body.ensures.refused c.from_residual-in_err-body.ensures.1
    (λ n. no_case (case_word (c.take.ensures.stays c.if-take.false) c.in_ok-expect.ensures.takes) (none_inner c.in_ok-test.ensures.read c.in_ok-expect-2.ensures.read n))

pub returns-clause-read : goal.returns-clause-read
returns-clause-read g c = case_is (case_word (c.take.ensures.stays c.if-take.false) c.in_ok-expect.ensures.takes) c.in_ok-test.ensures.read c.in_ok-expect-2.ensures.read c.in_ok-body.ensures.read c.in_ok-case_clause.ensures.view

pub returns-clause-placed : goal.returns-clause-placed
returns-clause-placed g c =
    placed_from (c.take.ensures.stays c.if-take.false)
    (placed_as c.in_ok-case_clause.ensures.told c.in_ok-case_clause.ensures.view (case_placed c.in_ok-expect.ensures.takes c.in_ok-test.ensures.placed c.in_ok-expect-2.ensures.takes c.in_ok-body.ensures.placed (spans_from c.span_to-span.ensures refl (c.last_place-lo.ensures ∙ c.in_ok-expect.ensures.begins) refl)))
