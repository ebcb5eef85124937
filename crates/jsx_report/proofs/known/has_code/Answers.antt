use Rattle.std.proofs.Common.{◌∙◌}
use Rattle.jsx_report.proofs.Equality.{any_code}
use Rattle.jsx_report.proofs.known.has_code.Goals as goal

pub returns : goal.returns
returns c = c.contains.ensures ∙ any_code c.args.code.now c.args.codes.now.keys
