use Rattle.std.proofs.Common.{refl, sym, ◌∙◌, ap}
use Rattle.std.specs.Str.{chars}
use Rattle.jsx_base.specs.Token.{Operator, IdentifierName}
use Rattle.jsx_tree.specs.Signs.{Tok}
use Rattle.jsx_tree.specs.Reading.{forth}
use Rattle.jsx_token.specs.Here.{place_of}
use Rattle.jsx_operand.proofs.Places.{spans_from}
use Rattle.jsx_operand.proofs.PlacedExpressions.{name_placed}
use Rattle.jsx_operand.proofs.Placing.{placed_from, placed_to}
use Rattle.jsx_operand.proofs.Steps.{passed}
use Rattle.jsx_syntax.proofs.Imports.{clause_both, clause_deep, clause_name, clause_names, front_from, front_to, no_names, no_second, unbound}
use Rattle.jsx_syntax.proofs.PlacedItems.{both_placed}
use Rattle.jsx_syntax.proofs.Items.{row_from}
use Rattle.jsx_syntax.proofs.import.import_clause.Goals as goal

-- no name stands there
pub returns-in_err-import_names-clause-refused : goal.returns-in_err-import_names-clause-refused
returns-in_err-import_names-clause-refused c =
    let same = c.in_default.ensures.stays in
    passed _ c.in_err-import_names.ensures.refused c.from_residual.ensures.1
    (λ b. row_from (ap place_of same) (no_names (λ t. ap (λ h. forth (Tok Operator IdentifierName t) (place_of h)) same ∙ c.in_default.ensures.missing t) b))

pub returns-in_default-clause-read : goal.returns-in_default-clause-read
returns-in_default-clause-read c =
    let same = c.in_default.ensures.stays in
    front_from (ap place_of same)
    (clause_names (λ t. ap (λ h. forth (Tok Operator IdentifierName t) (place_of h)) same ∙ c.in_default.ensures.missing t) c.in_ok-import_names.ensures.read)

pub returns-in_default-clause-placed : goal.returns-in_default-clause-placed
returns-in_default-clause-placed c = placed_from c.in_default.ensures.stays c.in_ok-import_names.ensures.placed

-- a name
pub returns-then-not-is_bound-clause-refused : goal.returns-then-not-is_bound-clause-refused
returns-then-not-is_bound-clause-refused c = record { bars = λ _ _ _. unbound (chars c.in-Some.raw.now) (sym c.is_bound.ensures ∙ c.if-not-is_bound.true) c.in-Some.ensures.taken refl }

pub returns-in_err-counted-clause-refused : goal.returns-in_err-counted-clause-refused
returns-in_err-counted-clause-refused c = passed _ c.in_err-counted.ensures.refused c.from_residual-in_err-counted.ensures.1 (λ b. clause_deep (chars c.in-Some.raw.now) c.in-Some.ensures.taken refl b)

pub returns-then-not-take-clause-read : goal.returns-then-not-take-clause-read
returns-then-not-take-clause-read c =
    front_to (ap place_of (c.take.ensures.stays c.if-not-take.true))
    (clause_name (chars c.in-Some.raw.now) (sym c.is_bound.ensures ∙ c.if-not-is_bound.false) c.in-Some.ensures.whole c.in-Some.ensures.taken refl (record { is = c.take.ensures.missing c.if-not-take.true }))

pub returns-then-not-take-clause-placed : goal.returns-then-not-take-clause-placed
returns-then-not-take-clause-placed c = placed_to (c.take.ensures.stays c.if-not-take.true) (name_placed c.in-Some.ensures.takes (c.last_place-lo.ensures ∙ c.in-Some.ensures.begins))

-- with names of the module
pub returns-in_err-names-clause-refused : goal.returns-in_err-names-clause-refused
returns-in_err-names-clause-refused c = passed _ c.in_err-names.ensures.refused c.from_residual-in_err-names.ensures.1 (λ b. no_second (chars c.in-Some.raw.now) c.in-Some.ensures.taken refl (record { is = c.take.ensures.taken c.if-not-take.false; found = refl }) b)

pub returns-clause-read : goal.returns-clause-read
returns-clause-read c = clause_both (chars c.in-Some.raw.now) (sym c.is_bound.ensures ∙ c.if-not-is_bound.false) c.in-Some.ensures.whole c.in-Some.ensures.taken refl (record { is = c.take.ensures.taken c.if-not-take.false; found = refl }) c.in_ok-names.ensures.read refl

pub returns-clause-placed : goal.returns-clause-placed
returns-clause-placed c =
    let begins = c.last_place-lo.ensures ∙ c.in-Some.ensures.begins in
    both_placed (name_placed c.in-Some.ensures.takes begins) (c.take.ensures.takes c.if-not-take.false) c.in_ok-names.ensures.placed (spans_from c.span_to.ensures refl begins refl)
