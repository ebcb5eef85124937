use Rattle.std.proofs.Common.{◌≡◌, refl, sym, ◌∙◌, ap}
use Rattle.jsx_tree.specs.Kinds.{Exported, From}
use Rattle.jsx_tree.specs.Signs.{AfterList, Ends}
use Rattle.jsx_tree.specs.Reading.{forth}
use Rattle.jsx_tree.specs.Answers.{Moves}
use Rattle.jsx_tree.specs.StaticRules.{all_of}
use Rattle.jsx_token.specs.Here.{Here, place_of}
use Rattle.jsx_operand.proofs.Places.{spans_from}
use Rattle.jsx_operand.proofs.Placing.{takes_ends, takes_from}
use Rattle.jsx_operand.proofs.Steps.{passed}
use Rattle.jsx_syntax.specs.Specifiers.{fits, written}
use Rattle.jsx_syntax.proofs.Exports.{from_built, from_unread, names_built, names_unended, names_unfit, names_unread}
use Rattle.jsx_syntax.proofs.PlacedItems.{names_from_placed, names_placed}
use Rattle.jsx_syntax.proofs.Sides.{viewed}
use Rattle.jsx_syntax.proofs.export.export_list.Goals as goal

ended : {x y z : Here} → z ≡ record y { ending = AfterList } → y ≡ x → Moves (Ends AfterList) (place_of x) (place_of z)
ended e s = record { is = ap place_of e ∙ ap (λ h. forth (Ends AfterList) (place_of h)) s; found = refl }

pub returns-in_err-all-clause-refused : goal.returns-in_err-all-clause-refused
returns-in_err-all-clause-refused c = passed _ c.in_err-all.ensures.refused c.from_residual.ensures.1 (λ n. names_unread n)

-- with `from`
pub returns-in_err-text-clause-refused : goal.returns-in_err-text-clause-refused
returns-in_err-text-clause-refused c = passed _ c.in_err-text.ensures.refused c.from_residual-in_err-text.ensures.1 (λ n. from_unread c.in_ok-all.ensures.read (record { is = c.take.ensures.taken c.if-take.true; found = refl }) n)

pub returns-then-take-clause-read : goal.returns-then-take-clause-read
returns-then-take-clause-read c = from_built c.in_ok-all.ensures.read (record { is = c.take.ensures.taken c.if-take.true; found = refl }) c.in_ok-text.ensures.read refl refl

pub returns-then-take-clause-placed : goal.returns-then-take-clause-placed
returns-then-take-clause-placed c = record {
  on = λ a b export begins sign word. names_from_placed export sign (c.in_ok-all.ensures.placed From) (c.take.ensures.takes c.if-take.true) c.in_ok-text.ensures.placed (spans_from c.span_to.ensures refl begins refl);
}

-- without it
pub returns-in-Some-clause-refused : goal.returns-in-Some-clause-refused
returns-in-Some-clause-refused c = record {
  bars = λ _ _ _. names_unfit c.in_ok-all.ensures.read (record { is = c.take.ensures.missing c.if-take.false }) (ap (λ xs. all_of (fits Exported) (written xs)) (sym c.deref.ensures.value) ∙ c.in-Some.ensures);
}

pub returns-in_err-semicolon-clause-refused : goal.returns-in_err-semicolon-clause-refused
returns-in_err-semicolon-clause-refused c =
    passed _ c.in_err-semicolon.ensures.refused c.from_residual-in_err-semicolon.ensures.1
    (λ b. names_unended c.in_ok-all.ensures.read (record { is = c.take.ensures.missing c.if-take.false }) (ended c.ends.ensures (c.take.ensures.stays c.if-take.false)) b)

pub returns-clause-read : goal.returns-clause-read
returns-clause-read c =
    names_built c.in_ok-all.ensures.read (record { is = c.take.ensures.missing c.if-take.false }) (ap (λ xs. all_of (fits Exported) (written xs)) (sym c.deref.ensures.value) ∙ c.in_default.ensures)
    (ended c.ends.ensures (c.take.ensures.stays c.if-take.false)) c.in_ok-semicolon.ensures.read (viewed Exported c.in_ok-all.all.items) refl

pub returns-clause-placed : goal.returns-clause-placed
returns-clause-placed c = record {
  on = λ a b export begins sign word. names_placed export sign (c.in_ok-all.ensures.placed Exported) (takes_from (c.take.ensures.stays c.if-take.false) (takes_ends c.ends.ensures)) c.in_ok-semicolon.ensures.takes (spans_from c.span_to-2.ensures refl begins refl);
}
