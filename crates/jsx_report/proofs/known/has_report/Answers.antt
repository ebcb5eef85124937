use Rattle.std.proofs.Common.{◌∙◌}
use Rattle.jsx_report.proofs.Equality.{any_report}
use Rattle.jsx_report.proofs.known.has_report.Goals as goal

pub returns : goal.returns
returns c = c.contains.ensures ∙ any_report c.args.report.now c.args.reports.now.keys
