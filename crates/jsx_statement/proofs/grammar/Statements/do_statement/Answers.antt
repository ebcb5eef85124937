use Rattle.std.proofs.Common.{refl, ◌∙◌, ap}
use Rattle.jsx_tree.proofs.Rows.Placing.{no_node}
use Rattle.jsx_tree.proofs.Rows.Steps.{bar, on, only_sign}
use Rattle.jsx_token.specs.Here.{place_of}
use Rattle.jsx_declaration.proofs.Controls.{barred_in, only_in}
use Rattle.jsx_statement.proofs.Controls.{do_built}
use Rattle.jsx_operand.proofs.Placing.{placed_as, takes_ends}
use Rattle.jsx_operand.proofs.Places.{spans_from}
use Rattle.jsx_function.proofs.Inside.{passed_as}
use Rattle.jsx_statement.proofs.PlacedNodes.{do_placed}
use Rattle.jsx_statement.proofs.grammar.Statements.do_statement.Goals as goal

pub returns-in_err-body-clause-refused : goal.returns-in_err-body-clause-refused
returns-in_err-body-clause-refused g c = passed_as _ c.of_loop-context.ensures.levels c.in_err-body.ensures.refused c.from_residual.ensures.1 (λ b. no_node (bar (barred_in c.of_loop-context.ensures.around b)))

pub returns-in_err-expect-clause-refused : goal.returns-in_err-expect-clause-refused
returns-in_err-expect-clause-refused g c =
    let i = c.of_loop-context.ensures.around in
    passed_as _ c.of_loop-context.ensures.levels c.in_err-expect.ensures.refused c.from_residual-in_err-expect.ensures.1 (λ b. no_node (on (only_in i c.in_ok-body.ensures.read) (bar (barred_in i b))))

pub returns-in_err-expect-2-clause-refused : goal.returns-in_err-expect-2-clause-refused
returns-in_err-expect-2-clause-refused g c =
    let i = c.of_loop-context.ensures.around in
    passed_as _ c.of_loop-context.ensures.levels c.in_err-expect-2.ensures.refused c.from_residual-in_err-expect-2.ensures.1 (λ b. no_node (on (only_in i c.in_ok-body.ensures.read) (on (only_in i c.in_ok-expect.ensures.read) (bar (barred_in i b)))))

pub returns-in_err-test-clause-refused : goal.returns-in_err-test-clause-refused
returns-in_err-test-clause-refused g c =
    let i = c.of_loop-context.ensures.around in
    passed_as _ c.of_loop-context.ensures.levels c.in_err-test.ensures.refused c.from_residual-in_err-test.ensures.1 (λ b. no_node (on (only_in i c.in_ok-body.ensures.read) (on (only_in i c.in_ok-expect.ensures.read) (on (only_in i c.in_ok-expect-2.ensures.read) (bar (barred_in i b))))))

pub returns-in_err-expect-3-clause-refused : goal.returns-in_err-expect-3-clause-refused
returns-in_err-expect-3-clause-refused g c =
    let i = c.of_loop-context.ensures.around in
    passed_as _ c.of_loop-context.ensures.levels c.in_err-expect-3.ensures.refused c.from_residual-in_err-expect-3.ensures.1
    (λ b. no_node (on (only_in i c.in_ok-body.ensures.read) (on (only_in i c.in_ok-expect.ensures.read) (on (only_in i c.in_ok-expect-2.ensures.read) (on (only_in i c.in_ok-test.ensures.read) (bar (barred_in i b)))))))

pub returns-in_err-semicolon-clause-refused : goal.returns-in_err-semicolon-clause-refused
returns-in_err-semicolon-clause-refused g c =
    let i = c.of_loop-context.ensures.around in
    passed_as _ c.of_loop-context.ensures.levels c.in_err-semicolon.ensures.refused c.from_residual-in_err-semicolon.ensures.1
    (λ b. no_node (on (only_in i c.in_ok-body.ensures.read) (on (only_in i c.in_ok-expect.ensures.read) (on (only_in i c.in_ok-expect-2.ensures.read) (on (only_in i c.in_ok-test.ensures.read) (on (only_in i c.in_ok-expect-3.ensures.read) (on (only_sign (record { is = ap place_of c.ends.ensures; found = refl })) (bar (barred_in i b)))))))))

pub returns-clause-read : goal.returns-clause-read
returns-clause-read g c =
    do_built c.of_loop-context.ensures.around c.in_ok-body.ensures.read c.in_ok-expect.ensures.read c.in_ok-expect-2.ensures.read c.in_ok-test.ensures.read c.in_ok-expect-3.ensures.read (record { is = ap place_of c.ends.ensures; found = refl }) c.in_ok-semicolon.ensures.read refl c.in_ok-do_statement.ensures.view

pub returns-clause-placed : goal.returns-clause-placed
returns-clause-placed g c = record {
  on = λ w sign begins.
      placed_as c.in_ok-do_statement.ensures.told c.in_ok-do_statement.ensures.view
      (do_placed sign c.in_ok-body.ensures.placed c.in_ok-expect.ensures.takes c.in_ok-expect-2.ensures.takes c.in_ok-test.ensures.placed c.in_ok-expect-3.ensures.takes (takes_ends c.ends.ensures) c.in_ok-semicolon.ensures.takes (spans_from c.span_to-span.ensures refl (c.last_place-lo.ensures ∙ begins) refl));
}
