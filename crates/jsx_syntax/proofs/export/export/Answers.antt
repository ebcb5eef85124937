use Rattle.std.proofs.Common.{refl, ◌∙◌, ap, subst}
use Rattle.jsx_tree.specs.Grammar.{key, pun}
use Rattle.jsx_tree.specs.Reading.{forth}
use Rattle.jsx_tree.specs.ViewProgram.{view_item}
use Rattle.jsx_token.specs.Here.{place_of}
use Rattle.jsx_token.specs.Places.{next_of}
use Rattle.jsx_operand.specs.Around.{around_of}
use Rattle.jsx_operand.proofs.Places.{spans_from}
use Rattle.jsx_operand.proofs.Placing.{placed_from, takes_from}
use Rattle.jsx_operand.proofs.Steps.{passed}
use Rattle.jsx_syntax.specs.Items.{OnlyBehind}
use Rattle.jsx_syntax.proofs.Exports.{braced, declared_built, declared_unread, defaulted, second_none, second_only, starred}
use Rattle.jsx_syntax.proofs.Items.{behind_from, none_from}
use Rattle.jsx_syntax.proofs.PlacedItems.{declared_placed}
use Rattle.jsx_syntax.proofs.export.export.Goals as goal

-- names
pub returns-in_err-export_list-clause-refused : goal.returns-in_err-export_list-clause-refused
returns-in_err-export_list-clause-refused c = passed _ c.in_err-export_list.ensures.refused c.from_residual.ensures.1 (λ n. second_none braced (record { is = c.take.ensures.taken c.if-take.true; found = refl }) n)

pub returns-then-take-clause-read : goal.returns-then-take-clause-read
returns-then-take-clause-read c = second_only braced (record { is = c.take.ensures.taken c.if-take.true; found = refl }) c.in_ok-export_list.ensures.read

pub returns-then-take-clause-placed : goal.returns-then-take-clause-placed
returns-then-take-clause-placed c = record { on = λ w sign begins. c.in_ok-export_list.ensures.placed.on w _ sign (c.last_place-lo.ensures ∙ begins) (c.take.ensures.takes c.if-take.true) (c.take.ensures.begins c.if-take.true) }

-- all
pub returns-in_err-export_all-clause-refused : goal.returns-in_err-export_all-clause-refused
returns-in_err-export_all-clause-refused c =
    passed _ c.in_err-export_all.ensures.refused c.from_residual-in_err-export_all.ensures.1
    (λ n. none_from (ap place_of (c.take.ensures.stays c.if-take.false)) (second_none starred (record { is = c.take-2.ensures.taken c.if-take-2.true; found = refl }) n))

pub returns-then-take-2-clause-read : goal.returns-then-take-2-clause-read
returns-then-take-2-clause-read c =
    subst (λ p. OnlyBehind (key "export") (around_of c.args.context.around) (view_item c.in_ok-export_all.field-0) p (place_of c.export_all.new.lexer)) (ap place_of (c.take.ensures.stays c.if-take.false))
    (second_only starred (record { is = c.take-2.ensures.taken c.if-take-2.true; found = refl }) c.in_ok-export_all.ensures.read)

pub returns-then-take-2-clause-placed : goal.returns-then-take-2-clause-placed
returns-then-take-2-clause-placed c = record { on = λ w sign begins. c.in_ok-export_all.ensures.placed.on w _ sign (c.last_place-lo.ensures ∙ begins) (takes_from (c.take.ensures.stays c.if-take.false) (c.take-2.ensures.takes c.if-take-2.true)) (c.take-2.ensures.begins c.if-take-2.true ∙ ap next_of (c.take.ensures.stays c.if-take.false)) }

-- a default
pub returns-in_err-export_default-clause-refused : goal.returns-in_err-export_default-clause-refused
returns-in_err-export_default-clause-refused c =
    let same = c.take-2.ensures.stays c.if-take-2.false ∙ c.take.ensures.stays c.if-take.false in
    passed _ c.in_err-export_default.ensures.refused c.from_residual-in_err-export_default.ensures.1
    (λ n. none_from (ap place_of same) (second_none defaulted (record { is = c.take-3.ensures.taken c.if-take-3.true; found = refl }) n))

pub returns-then-take-3-clause-read : goal.returns-then-take-3-clause-read
returns-then-take-3-clause-read c =
    let same = c.take-2.ensures.stays c.if-take-2.false ∙ c.take.ensures.stays c.if-take.false in
    subst (λ p. OnlyBehind (key "export") (around_of c.args.context.around) (view_item c.in_ok-export_default.field-0) p (place_of c.export_default.new.lexer)) (ap place_of same)
    (second_only defaulted (record { is = c.take-3.ensures.taken c.if-take-3.true; found = refl }) c.in_ok-export_default.ensures.read)

pub returns-then-take-3-clause-placed : goal.returns-then-take-3-clause-placed
returns-then-take-3-clause-placed c =
    let same = c.take-2.ensures.stays c.if-take-2.false ∙ c.take.ensures.stays c.if-take.false in
    record { on = λ w sign begins. c.in_ok-export_default.ensures.placed.on w _ sign (c.last_place-lo.ensures ∙ begins) (takes_from same (c.take-3.ensures.takes c.if-take-3.true)) (c.take-3.ensures.begins c.if-take-3.true ∙ ap next_of same) }

-- a declaration
pub returns-in_err-declaration-clause-refused : goal.returns-in_err-declaration-clause-refused
returns-in_err-declaration-clause-refused c =
    let star = c.take-3.ensures.stays c.if-take-3.false ∙ c.take-2.ensures.stays c.if-take-2.false in
    let same = star ∙ c.take.ensures.stays c.if-take.false in
    passed _ c.in_err-declaration.ensures.refused c.from_residual-in_err-declaration.ensures.1
    (λ b. none_from (ap place_of same)
    (declared_unread (record { is = ap (λ h. forth (pun "{") (place_of h)) same ∙ c.take.ensures.missing c.if-take.false }) (record { is = ap (λ h. forth (pun "*") (place_of h)) star ∙ c.take-2.ensures.missing c.if-take-2.false }) (record { is = ap (λ h. forth (key "default") (place_of h)) (c.take-3.ensures.stays c.if-take-3.false) ∙ c.take-3.ensures.missing c.if-take-3.false }) b))

pub returns-clause-read : goal.returns-clause-read
returns-clause-read c =
    let star = c.take-3.ensures.stays c.if-take-3.false ∙ c.take-2.ensures.stays c.if-take-2.false in
    let same = star ∙ c.take.ensures.stays c.if-take.false in
    behind_from (ap place_of same)
    (declared_built (record { is = ap (λ h. forth (pun "{") (place_of h)) same ∙ c.take.ensures.missing c.if-take.false }) (record { is = ap (λ h. forth (pun "*") (place_of h)) star ∙ c.take-2.ensures.missing c.if-take-2.false }) (record { is = ap (λ h. forth (key "default") (place_of h)) (c.take-3.ensures.stays c.if-take-3.false) ∙ c.take-3.ensures.missing c.if-take-3.false }) c.in_ok-declaration.ensures.read refl)

pub returns-clause-placed : goal.returns-clause-placed
returns-clause-placed c =
    let same = c.take-3.ensures.stays c.if-take-3.false ∙ (c.take-2.ensures.stays c.if-take-2.false ∙ c.take.ensures.stays c.if-take.false) in
    record { on = λ w sign begins. declared_placed sign (placed_from same c.in_ok-declaration.ensures.placed) (spans_from c.span_to.ensures refl (c.last_place-lo.ensures ∙ begins) refl) }
