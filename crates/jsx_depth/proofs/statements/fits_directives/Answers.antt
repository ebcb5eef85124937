use Rattle.std.proofs.Common.{◌∙◌, refl}
use Rattle.jsx_tree.specs.View.{directive}
use Rattle.jsx_depth.proofs.Lists.{some_left}
use Rattle.jsx_depth.proofs.statements.fits_directives.Goals as goal

pub returns-else-is_empty : goal.returns-else-is_empty
returns-else-is_empty c = c.has_level.ensures ∙ some_left c.args.levels directive c.args.directives.now c.is_empty.result c.is_empty.ensures c.if-is_empty.false (λ d. refl)
