use Rattle.std.proofs.Common.{true, false, refl, sym, ◌∙◌, ap}
use Rattle.jsx_tree.specs.Kinds.{Binds}
use Rattle.jsx_token.specs.Here.{place_of}
use Rattle.jsx_token.specs.Places.{end_of}
use Rattle.jsx_tree.proofs.Rows.Steps.{bar, built_2, no_sign, on, only_sign}
use Rattle.jsx_operand.proofs.Steps.{passed}
use Rattle.jsx_operand.proofs.Places.{spans_from}
use Rattle.jsx_operand.proofs.Placing.{placed_as, placed_to}
use Rattle.jsx_operand.proofs.PlacedExpressions.{rest_property_placed}
use Rattle.jsx_function.proofs.Params.{comma_unless, unless_comma}
use Rattle.jsx_function.proofs.PatternParts.{name_found}
use Rattle.jsx_function.proofs.pattern.rest_property.Goals as goal

pub returns-in_err-name-clause-refused : goal.returns-in_err-name-clause-refused
returns-in_err-name-clause-refused c = passed _ c.in_err-name.ensures.refused c.from_residual.ensures.1 (λ b. bar b)

pub returns-then-is_before-clause-refused : goal.returns-then-is_before-clause-refused
returns-then-is_before-clause-refused c = record {
  bars = λ _ _ _. on c.in_ok-name.ensures.read (bar (no_sign (record { is = comma_unless (place_of c.bound_name.new.lexer) (sym c.is_before.ensures.ahead ∙ c.if-is_before.true) })));
}

pub returns-clause-read : goal.returns-clause-read
returns-clause-read c = built_2 refl c.in_ok-name.ensures.read
    (only_sign (record { is = ap place_of c.is_before.ensures.stays ∙ sym (unless_comma (place_of c.bound_name.new.lexer) (sym c.is_before.ensures.ahead ∙ c.if-is_before.false) (name_found c.in_ok-name.ensures.read)); found = refl })) (c.in_ok-rest_property.ensures.view Binds)

pub returns-clause-placed : goal.returns-clause-placed
returns-clause-placed c = record {
  on = λ w sign begins. placed_to c.is_before.ensures.stays (placed_as c.in_ok-rest_property.ensures.told (c.in_ok-rest_property.ensures.view Binds) (rest_property_placed sign c.in_ok-name.ensures.placed (spans_from c.span_to.ensures refl (c.last_place-lo.ensures ∙ begins) (ap end_of c.is_before.ensures.stays))));
}
