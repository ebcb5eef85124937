use Rattle.std.proofs.Common.{refl, ◌∙◌}
use Rattle.jsx_statement.proofs.Heads.{for_built, no_for_body, no_for_test, no_for_update}
use Rattle.jsx_operand.proofs.Steps.{passed}
use Rattle.jsx_operand.proofs.Placing.{placed_as}
use Rattle.jsx_operand.proofs.Places.{spans_from}
use Rattle.jsx_function.proofs.Inside.{passed_as}
use Rattle.jsx_statement.proofs.PlacedNodes.{for_placed, in_placed, of_placed}
use Rattle.jsx_statement.proofs.Loops.{as_initial, as_items, as_keys, in_built, initial_only, initial_other, items_only, items_other, keys_only, keys_other, no_bracket, no_head, no_in_body, no_listed, no_object, no_of_body, of_node, placed_initial, placed_items, placed_keys}
use Rattle.jsx_statement.proofs.grammar.Statements.for_statement.Goals as goal

pub returns-in_err-expect-clause-refused : goal.returns-in_err-expect-clause-refused
returns-in_err-expect-clause-refused g c = passed _ c.in_err-expect.ensures.refused c.from_residual.ensures.1 (λ b. no_bracket b)

pub returns-in_err-begun-clause-refused : goal.returns-in_err-begun-clause-refused
returns-in_err-begun-clause-refused g c = passed _ c.in_err-begun.ensures.refused c.from_residual-in_err-begun.ensures.1 (λ n. no_head c.in_ok-expect.ensures.read n)

pub returns-in_err-test-in-Initial-clause-refused : goal.returns-in_err-test-in-Initial-clause-refused
returns-in_err-test-in-Initial-clause-refused g c = passed _ c.in_err-test-in-Initial.ensures.refused c.from_residual-in_err-test-in-Initial.ensures.1 (λ n. let r = (as_initial c.in-Initial.is c.in_ok-begun.ensures.read) in initial_other c.in_ok-expect.ensures.read r (no_for_test c.in_ok-expect.ensures.read r.initial n))

pub returns-in_err-update-in-Initial-clause-refused : goal.returns-in_err-update-in-Initial-clause-refused
returns-in_err-update-in-Initial-clause-refused g c = passed _ c.in_err-update-in-Initial.ensures.refused c.from_residual-in_err-update-in-Initial.ensures.1 (λ n. let r = (as_initial c.in-Initial.is c.in_ok-begun.ensures.read) in initial_other c.in_ok-expect.ensures.read r (no_for_update c.in_ok-expect.ensures.read r.initial c.in_ok-test-in-Initial.ensures.read n))

pub returns-in_err-body-in-Initial-clause-refused : goal.returns-in_err-body-in-Initial-clause-refused
returns-in_err-body-in-Initial-clause-refused g c = passed_as _ c.of_loop.ensures.levels c.in_err-body-in-Initial.ensures.refused c.from_residual-in_err-body-in-Initial.ensures.1 (λ b. let r = (as_initial c.in-Initial.is c.in_ok-begun.ensures.read) in initial_other c.in_ok-expect.ensures.read r (no_for_body c.of_loop.ensures.around c.in_ok-expect.ensures.read r.initial c.in_ok-test-in-Initial.ensures.read c.in_ok-update-in-Initial.ensures.read b))

pub returns-in_ok-for_statement-in-Initial-clause-read : goal.returns-in_ok-for_statement-in-Initial-clause-read
returns-in_ok-for_statement-in-Initial-clause-read g c = let r = (as_initial c.in-Initial.is c.in_ok-begun.ensures.read) in initial_only c.in_ok-expect.ensures.read r (for_built c.of_loop.ensures.around c.in_ok-expect.ensures.read r.initial r.closed c.in_ok-test-in-Initial.ensures.read c.in_ok-update-in-Initial.ensures.read c.in_ok-body-in-Initial.ensures.read c.in_ok-for_statement-in-Initial.ensures.view)

pub returns-in_ok-for_statement-in-Initial-clause-placed : goal.returns-in_ok-for_statement-in-Initial-clause-placed
returns-in_ok-for_statement-in-Initial-clause-placed g c = record {
  on = λ w sign begins. placed_as c.in_ok-for_statement-in-Initial.ensures.told c.in_ok-for_statement-in-Initial.ensures.view
      (for_placed sign c.in_ok-expect.ensures.takes (placed_initial c.in-Initial.is c.in_ok-begun.ensures.placed) c.in_ok-test-in-Initial.ensures.placed c.in_ok-update-in-Initial.ensures.placed c.in_ok-body-in-Initial.ensures.placed (spans_from c.span_to-span.ensures refl (c.last_place-lo.ensures ∙ begins) refl));
}

pub returns-in_err-object-in-Keys-clause-refused : goal.returns-in_err-object-in-Keys-clause-refused
returns-in_err-object-in-Keys-clause-refused g c = passed _ c.in_err-object-in-Keys.ensures.refused c.from_residual-in_err-object-in-Keys.ensures.1 (λ n. let r = (as_keys c.in-Keys.is c.in_ok-begun.ensures.read) in keys_other c.in_ok-expect.ensures.read r (no_object c.in_ok-expect.ensures.read r.keys n))

pub returns-in_err-body-in-Keys-clause-refused : goal.returns-in_err-body-in-Keys-clause-refused
returns-in_err-body-in-Keys-clause-refused g c = passed _ c.in_err-body-in-Keys.ensures.refused c.from_residual-in_err-body-in-Keys.ensures.1 (λ n. let r = (as_keys c.in-Keys.is c.in_ok-begun.ensures.read) in keys_other c.in_ok-expect.ensures.read r (no_in_body c.in_ok-expect.ensures.read r.keys c.in_ok-object-in-Keys.ensures.read n))

pub returns-in_ok-for_in-in-Keys-clause-read : goal.returns-in_ok-for_in-in-Keys-clause-read
returns-in_ok-for_in-in-Keys-clause-read g c = let r = (as_keys c.in-Keys.is c.in_ok-begun.ensures.read) in keys_only c.in_ok-expect.ensures.read r (in_built c.in_ok-expect.ensures.read r.keys c.in_ok-object-in-Keys.ensures.read c.in_ok-body-in-Keys.ensures.read c.in_ok-for_in-in-Keys.ensures.view)

pub returns-in_ok-for_in-in-Keys-clause-placed : goal.returns-in_ok-for_in-in-Keys-clause-placed
returns-in_ok-for_in-in-Keys-clause-placed g c = record {
  on = λ w sign begins. placed_as c.in_ok-for_in-in-Keys.ensures.told c.in_ok-for_in-in-Keys.ensures.view
      (in_placed sign c.in_ok-expect.ensures.takes (placed_keys c.in-Keys.is c.in_ok-begun.ensures.placed) c.in_ok-object-in-Keys.ensures.placed c.in_ok-body-in-Keys.ensures.placed (spans_from c.span_to.ensures refl (c.last_place-lo.ensures ∙ begins) refl));
}

pub returns-in_err-items-in-Items-clause-refused : goal.returns-in_err-items-in-Items-clause-refused
returns-in_err-items-in-Items-clause-refused g c = passed _ c.in_err-items-in-Items.ensures.refused c.from_residual-in_err-items-in-Items.ensures.1 (λ n. let r = (as_items c.in-Items.is c.in_ok-begun.ensures.read) in items_other c.in_ok-expect.ensures.read r (no_listed c.in_ok-expect.ensures.read r.items n))

pub returns-in_err-body-in-Items-clause-refused : goal.returns-in_err-body-in-Items-clause-refused
returns-in_err-body-in-Items-clause-refused g c = passed _ c.in_err-body-in-Items.ensures.refused c.from_residual-in_err-body-in-Items.ensures.1 (λ n. let r = (as_items c.in-Items.is c.in_ok-begun.ensures.read) in items_other c.in_ok-expect.ensures.read r (no_of_body c.in_ok-expect.ensures.read r.items c.in_ok-items-in-Items.ensures.read n))

pub returns-in_ok-for_of-in-Items-clause-read : goal.returns-in_ok-for_of-in-Items-clause-read
returns-in_ok-for_of-in-Items-clause-read g c = let r = (as_items c.in-Items.is c.in_ok-begun.ensures.read) in items_only c.in_ok-expect.ensures.read r (of_node c.in_ok-expect.ensures.read r.items c.in_ok-items-in-Items.ensures.read c.in_ok-body-in-Items.ensures.read c.in_ok-for_of-in-Items.ensures.view)

pub returns-in_ok-for_of-in-Items-clause-placed : goal.returns-in_ok-for_of-in-Items-clause-placed
returns-in_ok-for_of-in-Items-clause-placed g c = record {
  on = λ w sign begins. placed_as c.in_ok-for_of-in-Items.ensures.told c.in_ok-for_of-in-Items.ensures.view
      (of_placed sign c.in_ok-expect.ensures.takes (placed_items c.in-Items.is c.in_ok-begun.ensures.placed) c.in_ok-items-in-Items.ensures.placed c.in_ok-body-in-Items.ensures.placed (spans_from c.span_to-in-Items.ensures refl (c.last_place-lo.ensures ∙ begins) refl));
}
