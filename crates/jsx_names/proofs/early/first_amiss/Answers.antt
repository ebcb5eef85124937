use Rattle.std.proofs.Common.{ap, ◌∙◌, ◌∷◌}
use Rattle.jsx_names.specs.declared.event.Event.TheVariants as variant
use Rattle.jsx_names.proofs.Collecting.{amiss_told}
use Rattle.jsx_names.proofs.early.first_amiss.Goals as goal

pub returns-in_ok-again-in-Some-Opens-Module-default :
    goal.returns-in_ok-again-in-Some-Opens-Module-default
returns-in_ok-again-in-Some-Opens-Module-default c =
    let in-first = c.in-Some-Opens-Module-default in
    let opens = in-first.field-0-0-is ∙ ap variant.Opens in-first.field-0-0-0-is in
    c.earlier.ensures ∙ amiss_told c.args.events.now in-first.inside.now c.in_ok-again-in-Some-Opens-Module-default.again c.first_unknown.result
    (in-first.ensures.cases.0 ∙ ap (λ e. e ∷ in-first.inside.now) opens) c.in_ok-again-in-Some-Opens-Module-default.ensures (c.first_unknown.ensures _ c.in_ok-names-in-Some-Opens-Module-default.ensures)
