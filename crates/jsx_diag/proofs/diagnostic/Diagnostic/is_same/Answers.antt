use Rattle.std.proofs.Common.{sym, ◌∙◌}
use Rattle.jsx_diag.proofs.Equality.{report_decides}
use Rattle.jsx_diag.proofs.diagnostic.Diagnostic.is_same.Goals as goal

pub returns : goal.returns
returns c = let d = report_decides c.args.self.now c.args.other.now in (λ t. d.0 (sym c.eq.ensures ∙ t), λ h. c.eq.ensures ∙ d.1 h)
