use Rattle.std.proofs.Common.{ap, map, sym, ◌∙◌}
use Rattle.jsx_tree.specs.Kinds.{Imported}
use Rattle.jsx_tree.specs.View.{forest}
use Rattle.jsx_tree.specs.ViewProgram.{view_import_names, view_specifier}
use Rattle.jsx_depth.specs.Fits.{fits, fits_each}
use Rattle.jsx_depth.proofs.program.fits_import_names.Goals as goal

pub returns-in-List : goal.returns-in-List
returns-in-List c =
    c.fits_specifiers.ensures Imported
    ∙ (ap (λ xs. fits_each c.args.levels (forest (map (view_specifier Imported) xs))) c.deref.ensures.value
    ∙ sym (ap (λ x. fits c.args.levels (view_import_names x)) c.in-List.is))
