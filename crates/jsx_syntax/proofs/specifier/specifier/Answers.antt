use Rattle.std.proofs.Common.{◌≡◌, refl, sym, ◌∙◌, ap, subst}
use Rattle.jsx_tree.specs.Kinds.{Tree}
use Rattle.jsx_tree.specs.Reading.{Place}
use Rattle.jsx_tree.specs.StaticRules.{Surroundings}
use Rattle.jsx_token.specs.Here.{place_of}
use Rattle.jsx_token.specs.Places.{end_of}
use Rattle.jsx_operand.proofs.Places.{spans_from}
use Rattle.jsx_operand.proofs.PlacedExpressions.{name_placed}
use Rattle.jsx_operand.proofs.Placing.{placed_to}
use Rattle.jsx_operand.proofs.Steps.{passed}
use Rattle.jsx_syntax.specs.Specifiers.{OnlySpecifier}
use Rattle.jsx_syntax.proofs.PlacedItems.{renamed_placed, single_placed}
use Rattle.jsx_syntax.proofs.Specifiers.{no_name, no_second, renamed_read, single_read}
use Rattle.jsx_syntax.proofs.specifier.specifier.Goals as goal

only_to : {v : Surroundings} {x y z : Place} {t : Tree} → z ≡ y → OnlySpecifier v x t y → OnlySpecifier v x t z
only_to {v} {x} {t = t} e o = subst (OnlySpecifier v x t) (sym e) o

pub returns-in_err-raw-clause-refused : goal.returns-in_err-raw-clause-refused
returns-in_err-raw-clause-refused c = passed _ c.in_err-raw.ensures.refused c.from_residual.ensures.1 (λ b. no_name b)

pub returns-then-not-take-clause-read : goal.returns-then-not-take-clause-read
returns-then-not-take-clause-read c =
    only_to (ap place_of (c.take.ensures.stays c.if-not-take.true))
    (single_read c.in_ok-raw.ensures.read (record { is = c.take.ensures.missing c.if-not-take.true }) refl)

pub returns-then-not-take-clause-placed : goal.returns-then-not-take-clause-placed
returns-then-not-take-clause-placed c =
    let begins = c.last_place-lo.ensures ∙ c.in_ok-raw.ensures.begins in
    let stays = c.take.ensures.stays c.if-not-take.true in
    λ side. placed_to stays (single_placed side (name_placed c.in_ok-raw.ensures.takes begins) (spans_from c.span_to.ensures refl begins (ap end_of stays)))

pub returns-in_err-raw-2-clause-refused : goal.returns-in_err-raw-2-clause-refused
returns-in_err-raw-2-clause-refused c = passed _ c.in_err-raw-2.ensures.refused c.from_residual-in_err-raw-2.ensures.1 (λ b. no_second c.in_ok-raw.ensures.read (record { is = c.take.ensures.taken c.if-not-take.false; found = refl }) b)

pub returns-clause-read : goal.returns-clause-read
returns-clause-read c = renamed_read c.in_ok-raw.ensures.read (record { is = c.take.ensures.taken c.if-not-take.false; found = refl }) c.in_ok-raw-2.ensures.read refl

pub returns-clause-placed : goal.returns-clause-placed
returns-clause-placed c =
    let begins = c.last_place-lo.ensures ∙ c.in_ok-raw.ensures.begins in
    λ side. renamed_placed side (name_placed c.in_ok-raw.ensures.takes begins) (c.take.ensures.takes c.if-not-take.false) (name_placed c.in_ok-raw-2.ensures.takes (c.last_place.ensures ∙ c.in_ok-raw-2.ensures.begins)) (spans_from c.span_to-2.ensures refl begins refl)
