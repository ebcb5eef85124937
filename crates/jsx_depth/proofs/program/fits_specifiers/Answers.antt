use Rattle.std.proofs.Common.{◌∙◌}
use Rattle.jsx_tree.specs.ViewProgram.{view_specifier}
use Rattle.jsx_depth.proofs.Depths.{specifier_fits}
use Rattle.jsx_depth.proofs.Lists.{some_left}
use Rattle.jsx_depth.proofs.program.fits_specifiers.Goals as goal

pub returns-else-is_empty : goal.returns-else-is_empty
returns-else-is_empty c = λ side. c.has_level.ensures ∙ some_left c.args.levels (view_specifier side) c.args.specifiers.now c.is_empty.result c.is_empty.ensures c.if-is_empty.false (specifier_fits c.args.levels side)
