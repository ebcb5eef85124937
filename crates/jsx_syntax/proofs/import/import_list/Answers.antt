use Rattle.std.proofs.Common.{refl, sym, ◌∙◌, ap}
use Rattle.jsx_tree.specs.Kinds.{Imported}
use Rattle.jsx_tree.specs.StaticRules.{all_of}
use Rattle.jsx_operand.proofs.Places.{spans_from}
use Rattle.jsx_operand.proofs.Steps.{passed}
use Rattle.jsx_syntax.specs.Specifiers.{fits, written}
use Rattle.jsx_syntax.proofs.PlacedItems.{list_placed}
use Rattle.jsx_syntax.proofs.Sides.{side_none, side_row, side_unfit}
use Rattle.jsx_syntax.proofs.import.import_list.Goals as goal

pub returns-in_err-all-clause-refused : goal.returns-in_err-all-clause-refused
returns-in_err-all-clause-refused c = passed _ c.in_err-all.ensures.refused c.from_residual.ensures.1 (λ n. side_none Imported n)

pub returns-in-Some-clause-refused : goal.returns-in-Some-clause-refused
returns-in-Some-clause-refused c = record { bars = λ _ _ _. side_unfit Imported c.in_ok-all.ensures.read (ap (λ xs. all_of (fits Imported) (written xs)) (sym c.deref.ensures.value) ∙ c.in-Some.ensures) }

pub returns-clause-read : goal.returns-clause-read
returns-clause-read c = record { parts = _; is = refl; row = side_row Imported c.in_ok-all.all.items refl c.in_ok-all.ensures.read (ap (λ xs. all_of (fits Imported) (written xs)) (sym c.deref.ensures.value) ∙ c.in_default.ensures) }

pub returns-clause-placed : goal.returns-clause-placed
returns-clause-placed c = record { on = λ w sign begins. list_placed sign (c.in_ok-all.ensures.placed Imported) (spans_from c.span_to.ensures refl (c.last_place-lo.ensures ∙ begins) refl) }
