use Rattle.std.proofs.Common.{refl, ◌∙◌, ap}
use Rattle.jsx_base.specs.Token.{Operator, StringLiteral}
use Rattle.jsx_tree.specs.Signs.{Tok}
use Rattle.jsx_tree.specs.Reading.{forth}
use Rattle.jsx_token.specs.Here.{place_of}
use Rattle.jsx_operand.proofs.Homes.{only_leaf, strings}
use Rattle.jsx_operand.proofs.Places.{spans_from}
use Rattle.jsx_operand.proofs.PlacedExpressions.{string_placed}
use Rattle.jsx_operand.proofs.Placing.{placed_from, takes_ends}
use Rattle.jsx_operand.proofs.Steps.{passed}
use Rattle.jsx_syntax.proofs.Imports.{bare_built, bare_deep, bare_unread, import_built, import_unended, import_unread, source_read, source_unread}
use Rattle.jsx_syntax.proofs.Items.{behind_from, none_from}
use Rattle.jsx_syntax.proofs.PlacedItems.{bare_placed, import_placed, source_placed}
use Rattle.jsx_syntax.proofs.import.import.Goals as goal

-- a string alone
pub returns-in_err-counted-clause-refused : goal.returns-in_err-counted-clause-refused
returns-in_err-counted-clause-refused c =
    let string = only_leaf strings refl refl c.in-Some.ensures.whole c.in-Some.ensures.taken refl in
    passed _ c.in_err-counted.ensures.refused c.from_residual.ensures.1 (λ b. bare_deep string b)

pub returns-in_err-semicolon-clause-refused : goal.returns-in_err-semicolon-clause-refused
returns-in_err-semicolon-clause-refused c =
    let string = only_leaf strings refl refl c.in-Some.ensures.whole c.in-Some.ensures.taken refl in
    passed _ c.in_err-semicolon.ensures.refused c.from_residual-in_err-semicolon.ensures.1 (λ b. bare_unread string (source_unread string (record { is = ap place_of c.ends.ensures; found = refl }) b))

pub returns-in-Some-clause-read : goal.returns-in-Some-clause-read
returns-in-Some-clause-read c =
    let string = only_leaf strings refl refl c.in-Some.ensures.whole c.in-Some.ensures.taken refl in
    bare_built string (source_read string (record { is = ap place_of c.ends.ensures; found = refl }) c.in_ok-semicolon.ensures.read) refl

pub returns-in-Some-clause-placed : goal.returns-in-Some-clause-placed
returns-in-Some-clause-placed c = record {
  on = λ w sign begins.
      bare_placed sign (source_placed (string_placed c.in-Some.ensures.takes (c.last_place.ensures ∙ c.in-Some.ensures.begins)) (takes_ends c.ends.ensures) c.in_ok-semicolon.ensures.takes) (spans_from c.span_to.ensures refl (c.last_place-lo.ensures ∙ begins) refl);
}

-- what is bound, and `from`
pub returns-in_err-clause-clause-refused : goal.returns-in_err-clause-clause-refused
returns-in_err-clause-clause-refused c =
    let same = c.in_default.ensures.stays in
    passed _ c.in_err-clause.ensures.refused c.from_residual-in_err-clause.ensures.1
    (λ n. none_from (ap place_of same) (import_unread (λ t. ap (λ h. forth (Tok Operator StringLiteral t) (place_of h)) same ∙ c.in_default.ensures.missing t) n))

pub returns-in_err-text-clause-refused : goal.returns-in_err-text-clause-refused
returns-in_err-text-clause-refused c =
    let same = c.in_default.ensures.stays in
    passed _ c.in_err-text.ensures.refused c.from_residual-in_err-text.ensures.1
    (λ n. none_from (ap place_of same) (import_unended (λ t. ap (λ h. forth (Tok Operator StringLiteral t) (place_of h)) same ∙ c.in_default.ensures.missing t) c.in_ok-clause.ensures.read n))

pub returns-clause-read : goal.returns-clause-read
returns-clause-read c =
    let same = c.in_default.ensures.stays in
    behind_from (ap place_of same)
    (import_built (λ t. ap (λ h. forth (Tok Operator StringLiteral t) (place_of h)) same ∙ c.in_default.ensures.missing t) c.in_ok-clause.ensures.read c.in_ok-text.ensures.read refl)

pub returns-clause-placed : goal.returns-clause-placed
returns-clause-placed c = record {
  on = λ w sign begins. import_placed sign (placed_from c.in_default.ensures.stays c.in_ok-clause.ensures.placed) c.in_ok-text.ensures.placed (spans_from c.span_to-2.ensures refl (c.last_place-lo.ensures ∙ begins) refl);
}
