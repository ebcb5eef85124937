use Rattle.std.proofs.Common.{true, false, refl, ◌∙◌, ap}
use Rattle.std.specs.Str.{chars}
use Rattle.jsx_base.specs.Token.{Operator, IdentifierName}
use Rattle.jsx_tree.specs.Signs.{Tok}
use Rattle.jsx_tree.specs.Grammar.{pun}
use Rattle.jsx_tree.specs.Reading.{forth}
use Rattle.jsx_token.specs.Here.{place_of}
use Rattle.jsx_token.specs.Places.{next_of}
use Rattle.jsx_operand.proofs.Homes.{IsName}
use Rattle.jsx_operand.proofs.Keys.{computed_barred, computed_only, key_as, literal_key}
use Rattle.jsx_operand.proofs.Placing.{placed_as, placed_from}
use Rattle.jsx_operand.proofs.PlacedExpressions.{name_placed}
use Rattle.jsx_operand.proofs.Steps.{passed, passed_in}
use Rattle.jsx_function.proofs.Inside.{barred_inner, barred_inside, deep_at, deep_behind}
use Rattle.jsx_function.proofs.Prefixes.{key_from, no_key_from}
use Rattle.jsx_function.proofs.grammar.Within.key.Goals as goal

pub returns-in_err-levels-clause-refused : goal.returns-in_err-levels-clause-refused
returns-in_err-levels-clause-refused g c = passed _ c.in_err-levels.ensures.refused c.from_residual.ensures.1 (λ b. deep_at _ b)

pub returns-in_err-key-clause-refused : goal.returns-in_err-key-clause-refused
returns-in_err-key-clause-refused g c = passed_in _ c.in_ok-levels.ensures.levels c.in_err-key.ensures.refused c.from_residual-in_err-key.ensures.1 (λ n. barred_inside (computed_barred (record { is = c.take.ensures.taken c.if-take.true; found = refl }) n))

pub returns-then-take-clause-read : goal.returns-then-take-clause-read
returns-then-take-clause-read g c = computed_only (record { is = c.take.ensures.taken c.if-take.true; found = refl }) c.in_ok-key.ensures.read

pub returns-then-take-clause-place : goal.returns-then-take-clause-place
returns-then-take-clause-place g c = c.last_place-place.ensures ∙ c.take.ensures.begins c.if-take.true

pub returns-then-take-clause-placed : goal.returns-then-take-clause-placed
returns-then-take-clause-placed g c = c.in_ok-key.ensures.placed.on _ (c.take.ensures.takes c.if-take.true) (c.take.ensures.begins c.if-take.true)

pub returns-in_err-levels-2-clause-refused : goal.returns-in_err-levels-2-clause-refused
returns-in_err-levels-2-clause-refused g c = passed _ c.in_err-levels-2.ensures.refused c.from_residual-in_err-levels-2.ensures.1 (λ b. deep_behind _ b)

pub returns-in-Some-clause-read : goal.returns-in-Some-clause-read
returns-in-Some-clause-read g c = key_from (c.take.ensures.stays c.if-take.false) (key_as c.name_key-key.ensures.view (literal_key IsName (chars c.in-Some.raw.now) refl c.in-Some.ensures.whole c.in-Some.ensures.taken refl))

pub returns-in-Some-clause-place : goal.returns-in-Some-clause-place
returns-in-Some-clause-place g c = c.last_place-place-in-Some.ensures ∙ (c.in-Some.ensures.begins ∙ ap next_of (c.take.ensures.stays c.if-take.false))

pub returns-in-Some-clause-placed : goal.returns-in-Some-clause-placed
returns-in-Some-clause-placed g c = placed_from (c.take.ensures.stays c.if-take.false) (placed_as c.name_key-key.ensures.told c.name_key-key.ensures.view (name_placed c.in-Some.ensures.takes (c.last_place-place-in-Some.ensures ∙ c.in-Some.ensures.begins)))

pub literal_key-requires : goal.literal_key-requires
literal_key-requires g c =
    let same = c.in_default.ensures.stays in
    record { name = λ t. ap (λ h. forth (Tok Operator IdentifierName t) (place_of h)) same ∙ c.in_default.ensures.missing t; bracket = ap (λ h. forth (pun "[") (place_of h)) (same ∙ c.take.ensures.stays c.if-take.false) ∙ c.take.ensures.missing c.if-take.false }

pub returns-in_err-key-2-clause-refused : goal.returns-in_err-key-2-clause-refused
returns-in_err-key-2-clause-refused g c = passed _ c.in_err-key-2.ensures.refused c.from_residual-in_err-key-2.ensures.1 (λ b. no_key_from (c.in_default.ensures.stays ∙ c.take.ensures.stays c.if-take.false) (barred_inner _ b))

pub returns-in_err-levels-3-clause-refused : goal.returns-in_err-levels-3-clause-refused
returns-in_err-levels-3-clause-refused g c = passed _ c.in_err-levels-3.ensures.refused c.from_residual-in_err-levels-3.ensures.1 (λ b. deep_behind _ b)

pub returns-clause-read : goal.returns-clause-read
returns-clause-read g c = key_from (c.in_default.ensures.stays ∙ c.take.ensures.stays c.if-take.false) c.in_ok-key-2.ensures.read

pub returns-clause-place : goal.returns-clause-place
returns-clause-place g c = c.last_place-place-2.ensures ∙ (c.in_ok-key-2.ensures.begins ∙ ap next_of (c.in_default.ensures.stays ∙ c.take.ensures.stays c.if-take.false))

pub returns-clause-placed : goal.returns-clause-placed
returns-clause-placed g c = placed_from (c.in_default.ensures.stays ∙ c.take.ensures.stays c.if-take.false) c.in_ok-key-2.ensures.placed
