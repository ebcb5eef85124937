use Rattle.std.proofs.Common.{subst}
use Rattle.std.proofs.lemmas.Result.{on_ok_weaker}
use Rattle.jsx_names.specs.Bindings.{left}
use Rattle.jsx_names.specs.Shadowed.{IsTop}
use Rattle.jsx_names.proofs.Shadowing.{entered_by, step_enters, step_opens}
use Rattle.jsx_names.proofs.binding.step.Goals as goal

pub returns-in-Opens : goal.returns-in-Opens
returns-in-Opens c = on_ok_weaker c.begin.result
    (λ e es inside ns g d b. step_opens c.args.event.now c.in-Opens.frame c.args.at es inside ns c.begin.new.bound c.begin.new.scopes.items c.in-Opens.is d (λ n p. e es n ns g b p))
    c.begin.ensures

pub returns-in-Some : goal.returns-in-Some
returns-in-Some c = on_ok_weaker c.begin-in-Some.result
    (λ e es inside ns g d b. step_enters c.args.event.now c.args.at es inside ns c.begin-in-Some.new.bound c.begin-in-Some.new.scopes.items c.in-Enters.is
    (entered_by es c.in-Some.scope ns c.begin-in-Some.new.bound c.begin-in-Some.new.scopes.items (subst (λ z. IsTop es z ns) c.in-Some.is (c.in_ok-scope-in-Enters.ensures.top es ns b)) (λ n p. e es n (left ns) g (c.in_ok-scope-in-Enters.ensures.left es ns b) p)))
    c.begin-in-Some.ensures
