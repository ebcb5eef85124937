use Rattle.std.proofs.Common.{refl, ◌∙◌, ap, subst}
use Rattle.jsx_tree.specs.Kinds.{none, part}
use Rattle.jsx_tree.specs.Spans.{no_tales, tale}
use Rattle.jsx_tree.specs.Told.{told_text}
use Rattle.jsx_tree.specs.ViewProgram.{source_of}
use Rattle.jsx_tree.specs.Answers.{OnlyRow}
use Rattle.jsx_token.specs.Here.{place_of}
use Rattle.jsx_operand.specs.Around.{around_of}
use Rattle.jsx_operand.specs.SoFar.{so_far}
use Rattle.jsx_operand.specs.Spans.{IsPlacedRow}
use Rattle.jsx_operand.proofs.Places.{spans_from}
use Rattle.jsx_operand.proofs.PlacedExpressions.{name_placed}
use Rattle.jsx_operand.proofs.Steps.{passed}
use Rattle.jsx_syntax.specs.Items.{from_row, from_symbols}
use Rattle.jsx_syntax.proofs.Exports.{all_as_built, all_as_unread, all_built, all_unnamed, all_unread}
use Rattle.jsx_syntax.proofs.PlacedItems.{star_as_placed, star_placed}
use Rattle.jsx_syntax.proofs.Items.{row_from}
use Rattle.jsx_syntax.proofs.export.export_all.Goals as goal

-- with a name
pub returns-in_err-raw-clause-refused : goal.returns-in_err-raw-clause-refused
returns-in_err-raw-clause-refused c = passed _ c.in_err-raw.ensures.refused c.from_residual.ensures.1 (λ b. all_unnamed (record { is = c.take.ensures.taken c.if-take.true; found = refl }) b)

pub returns-in_err-text-clause-refused : goal.returns-in_err-text-clause-refused
returns-in_err-text-clause-refused c = passed _ c.in_err-text.ensures.refused c.from_residual-in_err-text.ensures.1 (λ n. all_as_unread (record { is = c.take.ensures.taken c.if-take.true; found = refl }) c.in_ok-raw.ensures.read n)

pub returns-then-take-clause-read : goal.returns-then-take-clause-read
returns-then-take-clause-read c = all_as_built (record { is = c.take.ensures.taken c.if-take.true; found = refl }) c.in_ok-raw.ensures.read c.in_ok-text.ensures.read refl

pub returns-then-take-clause-placed : goal.returns-then-take-clause-placed
returns-then-take-clause-placed c = record {
  on = λ a b export begins sign word. star_as_placed export sign (c.take.ensures.takes c.if-take.true) (name_placed c.in_ok-raw.ensures.takes (c.last_place.ensures ∙ c.in_ok-raw.ensures.begins)) c.in_ok-text.ensures.placed (spans_from c.span_to.ensures refl begins refl);
}

-- without one
pub returns-in_err-text-2-clause-refused : goal.returns-in_err-text-2-clause-refused
returns-in_err-text-2-clause-refused c =
    let same = c.take.ensures.stays c.if-take.false in
    passed _ c.in_err-text-2.ensures.refused c.from_residual-in_err-text-2.ensures.1
    (λ n. all_unread (record { is = c.take.ensures.missing c.if-take.false }) (row_from (ap place_of same) n))

pub returns-clause-read : goal.returns-clause-read
returns-clause-read c =
    let same = c.take.ensures.stays c.if-take.false in
    all_built (record { is = c.take.ensures.missing c.if-take.false }) (subst (λ h. OnlyRow so_far (around_of c.args.context.around) from_row (place_of h) (part (source_of c.in_ok-text-2.text) none) (place_of c.from_source-2.new.lexer)) same c.in_ok-text-2.ensures.read) refl

pub returns-clause-placed : goal.returns-clause-placed
returns-clause-placed c =
    let same = c.take.ensures.stays c.if-take.false in
    record {
      on = λ a b export begins sign word.
          star_placed export sign (subst (λ h. IsPlacedRow from_symbols (tale (told_text c.in_ok-text-2.text) no_tales) (part (source_of c.in_ok-text-2.text) none) h c.from_source-2.new.lexer) same c.in_ok-text-2.ensures.placed) (spans_from c.span_to-2.ensures refl begins refl);
    }
