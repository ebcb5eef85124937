use Rattle.std.proofs.Common.{ap, sym, ◌∙◌}
use Rattle.jsx_heard.proofs.Hearing.{as_said}
use Rattle.jsx_heard.proofs.Evals.{called_by, paren_called}
use Rattle.jsx_heard.proofs.operations.+eval.Goals as goal

pub returns-in-Paren : goal.returns-in-Paren
returns-in-Paren t c = as_said c.eval.result _ _ _ _ (ap called_by c.in-Paren.is ∙ paren_called c.in-Paren.field-0 c.in-Paren.callee ∙ ap called_by (sym c.deref.ensures)) c.eval.ensures
