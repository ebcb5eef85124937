use Rattle.std.proofs.Common.{true, false, sym, ◌∙◌}
use Rattle.jsx_operand.proofs.Placing.{placed_to}
use Rattle.jsx_operand.proofs.Steps.{passed}
use Rattle.jsx_function.specs.Methods.{holder_at}
use Rattle.jsx_function.proofs.Fields.{unfielded}
use Rattle.jsx_function.proofs.Keyed.{keyed_at, keyed_first, keyed_neither, keyed_second, no_field, no_keyed_at, unbracketed, uncalled}
use Rattle.jsx_function.proofs.grammar.Within.class_keyed.Goals as goal

pub returns-in_err-method-clause-refused : goal.returns-in_err-method-clause-refused
returns-in_err-method-clause-refused g c = passed _ c.in_err-method.ensures.refused c.from_residual.ensures.1
    (λ n. keyed_neither (no_keyed_at c.is_before.ensures.stays n) (no_field (holder_at c.args.home) c.args.key (unfielded (sym c.is_before.ensures.ahead ∙ c.if-is_before.true))))

pub returns-then-is_before-clause-read : goal.returns-then-is_before-clause-read
returns-then-is_before-clause-read g c = keyed_first (keyed_at c.is_before.ensures.stays c.in_ok-method.ensures.read) (no_field (holder_at c.args.home) c.args.key (unfielded (sym c.is_before.ensures.ahead ∙ c.if-is_before.true)))

pub returns-then-is_before-clause-placed : goal.returns-then-is_before-clause-placed
returns-then-is_before-clause-placed g c = record { on = λ a b words begins l. c.in_ok-method.ensures.placed.on a b words begins (placed_to c.is_before.ensures.stays l) }

pub returns-in_err-field-clause-refused : goal.returns-in_err-field-clause-refused
returns-in_err-field-clause-refused g c = passed _ c.in_err-field.ensures.refused c.from_residual-in_err-field.ensures.1
    (λ n. keyed_neither (uncalled (holder_at c.args.home) c.args.key (λ w. unbracketed (sym c.is_before.ensures.ahead ∙ c.if-is_before.false))) (no_keyed_at c.is_before.ensures.stays n))

pub returns-clause-read : goal.returns-clause-read
returns-clause-read g c = keyed_second (uncalled (holder_at c.args.home) c.args.key (λ w. unbracketed (sym c.is_before.ensures.ahead ∙ c.if-is_before.false))) (keyed_at c.is_before.ensures.stays c.in_ok-field.ensures.read)

pub returns-clause-placed : goal.returns-clause-placed
returns-clause-placed g c = record { on = λ a b words begins l. c.in_ok-field.ensures.placed.on a b words begins (placed_to c.is_before.ensures.stays l) }
