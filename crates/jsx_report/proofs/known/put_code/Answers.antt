use Rattle.std.proofs.Common.{◌∙◌, ap, map}
use Rattle.jsx_diag.specs.Data.{code_of}
use Rattle.jsx_report.proofs.Sets.{code_added}
use Rattle.jsx_report.proofs.known.put_code.Goals as goal

pub returns-in-Some : goal.returns-in-Some
returns-in-Some c = rw c.in-Some.is (ap (map code_of) (rw c.unwrap.ensures at c.insert.ensures.keys) ∙ code_added c.in-Some.code c.args.codes.now.keys)
