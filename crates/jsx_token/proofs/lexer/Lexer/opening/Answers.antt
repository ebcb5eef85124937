use Rattle.std.proofs.Common.{◌<◌, sym, ap, ◌∙◌, subst}
use Rattle.jsx_token.specs.Here.{place_of, left}
use Rattle.jsx_token.specs.Places.{begin_of}
use Rattle.jsx_token.proofs.TakingOpenings.{none_opens, other_opens, opening_taken, opening_took}
use Rattle.jsx_token.proofs.Taking.{begins_alike}
use Rattle.jsx_token.proofs.lexer.Lexer.opening.Goals as goal

pub returns-in_default-clause-missing : goal.returns-in_default-clause-missing
returns-in_default-clause-missing c = none_opens c.in_default.ensures.found

pub returns-in_default-opening_of-clause-missing : goal.returns-in_default-opening_of-clause-missing
returns-in_default-opening_of-clause-missing c = other_opens c.in-Some.ensures.found (sym c.opening_of.ensures ∙ c.in_default-opening_of.is)

pub step-requires-clause-full : goal.step-requires-clause-full
step-requires-clause-full c = (opening_took c.in-Some-opening_of.opening c.in-Some.ensures.found (sym c.opening_of.ensures ∙ c.in-Some-opening_of.is)).full

pub returns-clause-taken : goal.returns-clause-taken
returns-clause-taken c = ap place_of c.step.ensures ∙ (opening_took c.in-Some-opening_of.opening c.in-Some.ensures.found (sym c.opening_of.ensures ∙ c.in-Some-opening_of.is)).taken

pub returns-clause-takes : goal.returns-clause-takes
returns-clause-takes c = record { leads = sym (ap place_of c.step.ensures ∙ (opening_took c.in-Some-opening_of.opening c.in-Some.ensures.found (sym c.opening_of.ensures ∙ c.in-Some-opening_of.is)).taken); same = ap (λ h. h.end) c.step.ensures ∙ ap (λ h. h.end) c.look.ensures.stays }

pub returns-clause-staged : goal.returns-clause-staged
returns-clause-staged c = opening_taken c.in-Some-opening_of.opening c.in-Some.ensures.found (sym c.opening_of.ensures ∙ c.in-Some-opening_of.is)

pub returns-clause-shorter : goal.returns-clause-shorter
returns-clause-shorter c = subst (λ y. left y < left c.args.self.now) (sym c.step.ensures) (opening_took c.in-Some-opening_of.opening c.in-Some.ensures.found (sym c.opening_of.ensures ∙ c.in-Some-opening_of.is)).shorter

pub returns-clause-begins : goal.returns-clause-begins
returns-clause-begins c = ap begin_of c.step.ensures ∙ begins_alike c.in-Some.seen.token.raw.now c.in-Some.seen.behind c.look.ensures.stays ∙ (opening_took c.in-Some-opening_of.opening c.in-Some.ensures.found (sym c.opening_of.ensures ∙ c.in-Some-opening_of.is)).begins
