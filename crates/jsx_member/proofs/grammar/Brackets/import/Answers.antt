use Rattle.std.proofs.Common.{true, false, refl, sym, ◌∙◌, ap, subst}
use Rattle.jsx_tree.specs.Grammar.{key}
use Rattle.jsx_tree.specs.View.{view_expr}
use Rattle.jsx_tree.specs.Told.{told_expr}
use Rattle.jsx_token.specs.Here.{place_of}
use Rattle.jsx_operand.specs.Spans.{IsPlacedBehind}
use Rattle.jsx_token.specs.Places.{begin_of}
use Rattle.jsx_tree.proofs.Rows.Steps.{on}
use Rattle.jsx_operand.proofs.Values.{sign_ended}
use Rattle.jsx_member.proofs.Imports.{import_called, import_uncalled, meta_opened, meta_outside, meta_unread}
use Rattle.jsx_operand.proofs.Places.{spans_from}
use Rattle.jsx_operand.proofs.Steps.{passed}
use Rattle.jsx_operand.proofs.Placing.{placed_as}
use Rattle.jsx_operand.proofs.PlacedExpressions.{meta_row}
use Rattle.jsx_member.proofs.grammar.Brackets.import.Goals as goal

pub returns-in_err-import_call-clause-refused : goal.returns-in_err-import_call-clause-refused
returns-in_err-import_call-clause-refused g c = passed _ c.in_err-import_call.ensures.refused c.from_residual.ensures.1
    (λ n. import_uncalled (record { same = sym (ap place_of (c.take.ensures.stays c.if-not-take.true)); stuck = record { is = c.take.ensures.missing c.if-not-take.true } }) n)

pub returns-then-not-take-clause-read : goal.returns-then-not-take-clause-read
returns-then-not-take-clause-read g c = import_called (record { same = sym (ap place_of (c.take.ensures.stays c.if-not-take.true)); stuck = record { is = c.take.ensures.missing c.if-not-take.true } }) c.in_ok-import_call.ensures.read

pub returns-then-not-take-clause-span : goal.returns-then-not-take-clause-span
returns-then-not-take-clause-span g c = spans_from c.in_ok-import_call.ensures.span refl (ap begin_of (c.take.ensures.stays c.if-not-take.true)) refl

pub returns-then-not-take-clause-placed : goal.returns-then-not-take-clause-placed
returns-then-not-take-clause-placed g c = subst (λ h. IsPlacedBehind (key "import") h (told_expr c.in_ok-import_call.field-0.value) (view_expr c.in_ok-import_call.field-0.value) c.import_call.new.lexer) (c.take.ensures.stays c.if-not-take.true) c.in_ok-import_call.ensures.placed

pub returns-in_err-expect-clause-refused : goal.returns-in_err-expect-clause-refused
returns-in_err-expect-clause-refused g c = passed _ c.in_err-expect.ensures.refused c.from_residual-in_err-expect.ensures.1 (λ b. meta_unread (record { is = c.take.ensures.taken c.if-not-take.false; found = refl }) b)

pub returns-then-not-context-clause-refused : goal.returns-then-not-context-clause-refused
returns-then-not-context-clause-refused g c = record { bars = λ _ _ _. meta_outside c.if-not-context.true (record { is = c.take.ensures.taken c.if-not-take.false; found = refl }) }

pub returns-clause-read : goal.returns-clause-read
returns-clause-read g c = meta_opened c.if-not-context.false (record { is = c.take.ensures.taken c.if-not-take.false; found = refl }) c.in_ok-expect.ensures.read refl c.in_ok-constant.ensures.view

pub returns-clause-ended : goal.returns-clause-ended
returns-clause-ended g c = sign_ended c.in_ok-expect.ensures.read.past

pub returns-clause-placed : goal.returns-clause-placed
returns-clause-placed g c = record {
  on = λ w sign begins. placed_as c.in_ok-constant.ensures.told c.in_ok-constant.ensures.view (meta_row sign (c.take.ensures.takes c.if-not-take.false) c.in_ok-expect.ensures.takes (spans_from c.span_to.ensures refl (c.last_place-lo.ensures ∙ begins) refl));
}

-- what `new` stands before
