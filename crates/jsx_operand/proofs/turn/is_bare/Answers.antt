use Rattle.std.proofs.Common.{◌∙◌, sym}
use Rattle.jsx_tree.specs.View.{view_expr}
use Rattle.jsx_operand.proofs.Variants.{hole_suits}
use Rattle.jsx_operand.proofs.turn.is_bare.Goals as goal

pub returns-in-Operation-clause-suits : goal.returns-in-Operation-clause-suits
returns-in-Operation-clause-suits c = λ h. hole_suits (view_expr c.args.expr.now) (sym c.is_hole.ensures.is ∙ h)
