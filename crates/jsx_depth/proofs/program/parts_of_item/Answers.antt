use Rattle.std.proofs.Common.{◌≡◌, ap, false, map, sym, true, ◌∙◌}
use Rattle.std.specs.Prelude.{◌&&◌}
use Rattle.jsx_tree.specs.Kinds.{Exported, From}
use Rattle.jsx_tree.specs.View.{forest}
use Rattle.jsx_tree.specs.ViewProgram.{view_item, view_specifier}
use Rattle.jsx_depth.specs.Fits.{fits_each, fits_inside, is_left}
use Rattle.jsx_depth.proofs.program.parts_of_item.Goals as goal

pub returns-in-ExportNames : goal.returns-in-ExportNames
returns-in-ExportNames c =
    c.fits_specifiers.ensures Exported
    ∙ (ap (λ xs. fits_each c.args.levels (forest (map (view_specifier Exported) xs))) c.deref.ensures.value
    ∙ sym (ap (λ x. fits_inside c.args.levels (view_item x)) c.in-ExportNames.is))

pub returns-then-fits_specifiers : goal.returns-then-fits_specifiers
returns-then-fits_specifiers c =
    let fit : true ≡ fits_each c.args.levels (forest (map (view_specifier From) c.in-ExportFrom.specifiers.items)) =
    sym c.if-fits_specifiers.true ∙ (c.fits_specifiers-in-ExportFrom.ensures From ∙ ap (λ xs. fits_each c.args.levels (forest (map (view_specifier From) xs))) c.deref-in-ExportFrom.ensures.value)
    in
    c.has_level-then-fits_specifiers.ensures
    ∙ (ap (λ b. b && is_left c.args.levels) fit
    ∙ sym (ap (λ x. fits_inside c.args.levels (view_item x)) c.in-ExportFrom.is))

pub returns-else-fits_specifiers : goal.returns-else-fits_specifiers
returns-else-fits_specifiers c =
    let fit : false ≡ fits_each c.args.levels (forest (map (view_specifier From) c.in-ExportFrom.specifiers.items)) =
    sym c.if-fits_specifiers.false ∙ (c.fits_specifiers-in-ExportFrom.ensures From ∙ ap (λ xs. fits_each c.args.levels (forest (map (view_specifier From) xs))) c.deref-in-ExportFrom.ensures.value)
    in
    c.if-fits_specifiers.false
    ∙ (ap (λ b. b && is_left c.args.levels) fit
    ∙ sym (ap (λ x. fits_inside c.args.levels (view_item x)) c.in-ExportFrom.is))
