use Rattle.std.proofs.Common.{◌∙◌, arith}
use Rattle.jsx_depth.proofs.Depths.{used_all, used_fewer}
use Rattle.jsx_depth.proofs.expressions.count_of.Goals as goal

pub returns-then-pieces-values : goal.returns-then-pieces-values
returns-then-pieces-values c = c.saturating_sub.ensures ∙ used_fewer c.args.pieces c.args.values (omega arith)

pub returns : goal.returns
returns c = used_all c.args.pieces c.args.values (omega arith)
