use Rattle.std.proofs.Common.{sym, ap, ◌∙◌}
use Rattle.jsx_heard.specs.Said.{met_all}
use Rattle.jsx_scope.proofs.EarlyErrors.{none_found, one_found}
use Rattle.jsx_scope.proofs.early_errors.early.Goals as goal

pub returns : goal.returns
returns c = λ _ _ _ _ is.
    none_found c.deref.result.now is (ap met_all c.deref.ensures.value ∙ c.in_ok-events.ensures) c.in_ok-branch.field-0 (sym c.in_ok-branch.was ∙ c.in_ok-check.ensures)

pub returns-in_err-branch : goal.returns-in_err-branch
returns-in_err-branch c = λ _ _ _ _ is.
    one_found c.from_residual-in_err-branch.result c.in_err-branch.field-0.0 c.deref.result.now is (ap met_all c.deref.ensures.value ∙ c.in_ok-events.ensures) (sym c.in_err-branch.was ∙ c.in_ok-check.ensures)
    c.from_residual-in_err-branch.ensures.1
