use Rattle.std.proofs.Common.{sym, ◌∙◌}
use Rattle.jsx_diag.proofs.Equality.{styled_decides}
use Rattle.jsx_diag.proofs.message.DiagnosticStyledString.is_same.Goals as goal

pub returns : goal.returns
returns c = let d = styled_decides c.args.self.now c.args.other.now in (λ t. d.0 (sym c.eq.ensures ∙ t), λ h. c.eq.ensures ∙ d.1 h)
