use Rattle.std.proofs.Common.{true, false, refl, ◌∙◌, ap}
use Rattle.jsx_tree.specs.Grammar.{pun}
use Rattle.jsx_tree.specs.Reading.{forth}
use Rattle.jsx_token.specs.Here.{place_of}
use Rattle.jsx_operand.proofs.Places.{spans_from}
use Rattle.jsx_operand.proofs.Placing.{placed_as}
use Rattle.jsx_operand.proofs.PlacedExpressions.{super_member_row}
use Rattle.jsx_operand.proofs.Steps.{passed}
use Rattle.jsx_operand.proofs.Values.{name_ended}
use Rattle.jsx_member.proofs.Supers.{call_opened, call_unread, index_opened, index_unread, member_opened, member_outside, member_unread, none_from, nothing_opened, opened_from, takes_to}
use Rattle.jsx_member.proofs.grammar.Brackets.super_expression.Goals as goal

-- a call
pub returns-in_err-super_call-clause-refused : goal.returns-in_err-super_call-clause-refused
returns-in_err-super_call-clause-refused g c = passed _ c.in_err-super_call.ensures.refused c.from_residual.ensures.1 (λ n. call_unread (record { is = c.take.ensures.taken c.if-take.true; found = refl }) n)

pub returns-then-take-clause-read : goal.returns-then-take-clause-read
returns-then-take-clause-read g c = call_opened (record { is = c.take.ensures.taken c.if-take.true; found = refl }) c.in_ok-super_call.ensures.read

pub returns-then-take-clause-span : goal.returns-then-take-clause-span
returns-then-take-clause-span g c = spans_from c.in_ok-super_call.ensures.span refl c.last_place-lo.ensures refl

pub returns-then-take-clause-placed : goal.returns-then-take-clause-placed
returns-then-take-clause-placed g c = record { on = λ w sign begins. c.in_ok-super_call.ensures.told.on w _ sign (c.last_place-lo.ensures ∙ begins) (c.take.ensures.takes c.if-take.true) }

-- a member in brackets
pub returns-in_err-super_index-clause-refused : goal.returns-in_err-super_index-clause-refused
returns-in_err-super_index-clause-refused g c = passed _ c.in_err-super_index.ensures.refused c.from_residual-in_err-super_index.ensures.1
    (λ n. none_from (c.take.ensures.stays c.if-take.false) (index_unread (record { is = c.take-2.ensures.taken c.if-take-2.true; found = refl }) n))

pub returns-then-take-2-clause-read : goal.returns-then-take-2-clause-read
returns-then-take-2-clause-read g c = opened_from (c.take.ensures.stays c.if-take.false) (index_opened (record { is = c.take-2.ensures.taken c.if-take-2.true; found = refl }) c.in_ok-super_index.ensures.read)

pub returns-then-take-2-clause-span : goal.returns-then-take-2-clause-span
returns-then-take-2-clause-span g c = spans_from c.in_ok-super_index.ensures.span refl c.last_place-lo.ensures refl

pub returns-then-take-2-clause-placed : goal.returns-then-take-2-clause-placed
returns-then-take-2-clause-placed g c = record { on = λ w sign begins. c.in_ok-super_index.ensures.told.on w _ (takes_to (c.take.ensures.stays c.if-take.false) sign) (c.last_place-lo.ensures ∙ begins) (c.take-2.ensures.takes c.if-take-2.true) }

-- a member by its name
pub returns-in_err-expect-clause-refused : goal.returns-in_err-expect-clause-refused
returns-in_err-expect-clause-refused g c =
    let same = c.take-2.ensures.stays c.if-take-2.false ∙ c.take.ensures.stays c.if-take.false in
    passed _ c.in_err-expect.ensures.refused c.from_residual-in_err-expect.ensures.1
    (λ b. none_from same (nothing_opened (ap (λ h. forth (pun "(") (place_of h)) same ∙ c.take.ensures.missing c.if-take.false) (ap (λ h. forth (pun "[") (place_of h)) (c.take-2.ensures.stays c.if-take-2.false) ∙ c.take-2.ensures.missing c.if-take-2.false) b))

pub returns-then-not-context-clause-refused : goal.returns-then-not-context-clause-refused
returns-then-not-context-clause-refused g c =
    let same = c.take-2.ensures.stays c.if-take-2.false ∙ c.take.ensures.stays c.if-take.false in
    record { bars = λ _ _ _. none_from same (member_outside c.if-not-context.true (ap (λ h. forth (pun "(") (place_of h)) same ∙ c.take.ensures.missing c.if-take.false) (ap (λ h. forth (pun "[") (place_of h)) (c.take-2.ensures.stays c.if-take-2.false) ∙ c.take-2.ensures.missing c.if-take-2.false)) }

pub returns-in_err-raw-clause-refused : goal.returns-in_err-raw-clause-refused
returns-in_err-raw-clause-refused g c =
    let same = c.take-2.ensures.stays c.if-take-2.false ∙ c.take.ensures.stays c.if-take.false in
    passed _ c.in_err-raw.ensures.refused c.from_residual-in_err-raw.ensures.1
    (λ b. none_from same (member_unread (ap (λ h. forth (pun "(") (place_of h)) same ∙ c.take.ensures.missing c.if-take.false) (ap (λ h. forth (pun "[") (place_of h)) (c.take-2.ensures.stays c.if-take-2.false) ∙ c.take-2.ensures.missing c.if-take-2.false) c.in_ok-expect.ensures.read b))

pub returns-clause-read : goal.returns-clause-read
returns-clause-read g c =
    let same = c.take-2.ensures.stays c.if-take-2.false ∙ c.take.ensures.stays c.if-take.false in
    opened_from same
    (member_opened c.if-not-context.false (ap (λ h. forth (pun "(") (place_of h)) same ∙ c.take.ensures.missing c.if-take.false) (ap (λ h. forth (pun "[") (place_of h)) (c.take-2.ensures.stays c.if-take-2.false) ∙ c.take-2.ensures.missing c.if-take-2.false) c.in_ok-expect.ensures.read
    c.in_ok-raw.ensures.read c.in_ok-super_member.ensures.view)

pub returns-clause-span : goal.returns-clause-span
returns-clause-span g c = spans_from c.span_to.ensures c.in_ok-super_member.ensures.span c.last_place-lo.ensures refl

pub returns-clause-ended : goal.returns-clause-ended
returns-clause-ended g c = name_ended c.in_ok-raw.ensures.read

pub returns-clause-placed : goal.returns-clause-placed
returns-clause-placed g c =
    let same = c.take-2.ensures.stays c.if-take-2.false ∙ c.take.ensures.stays c.if-take.false in
    record {
      on = λ w sign begins.
          placed_as c.in_ok-super_member.ensures.told c.in_ok-super_member.ensures.view
          (super_member_row (takes_to same sign) c.in_ok-expect.ensures.takes c.in_ok-raw.ensures.takes (c.last_place.ensures ∙ c.in_ok-raw.ensures.begins) (spans_from c.span_to.ensures refl (c.last_place-lo.ensures ∙ begins) refl));
    }
