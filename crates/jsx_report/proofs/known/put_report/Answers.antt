use Rattle.std.proofs.Common.{◌∙◌, ap, map}
use Rattle.jsx_diag.specs.Data.{report_of}
use Rattle.jsx_report.proofs.Sets.{new_report_added}
use Rattle.jsx_report.proofs.known.put_report.Goals as goal

pub returns : goal.returns
returns c = ap (map report_of) (rw c.unwrap.ensures at c.insert.ensures.keys) ∙ new_report_added c.args.report c.args.reports.now.keys c.requires.new
