use Rattle.std.proofs.Common.{◌<◌, sym, ap, ◌∙◌, subst}
use Rattle.jsx_token.specs.Here.{place_of, left}
use Rattle.jsx_token.specs.Places.{begin_of}
use Rattle.jsx_token.proofs.TakingHeadings.{none_heads, other_heads, heading_took}
use Rattle.jsx_token.proofs.Taking.{begins_alike}
use Rattle.jsx_token.proofs.lexer.Lexer.heading.Goals as goal

pub returns-in_default-clause-missing : goal.returns-in_default-clause-missing
returns-in_default-clause-missing c = none_heads c.in_default.ensures.found

pub returns-in_default-heading_of-clause-missing : goal.returns-in_default-heading_of-clause-missing
returns-in_default-heading_of-clause-missing c = other_heads c.in-Some.ensures.found c.in_default-heading_of.ensures

pub heading_of-requires : goal.heading_of-requires
heading_of-requires c = c.in-Some.ensures.found.spelled

pub step-requires-clause-full : goal.step-requires-clause-full
step-requires-clause-full c = (heading_took c.in-Some-heading_of.heading c.in-Some.ensures.found c.in-Some-heading_of.ensures).full

pub returns-clause-taken : goal.returns-clause-taken
returns-clause-taken c = ap place_of c.step.ensures ∙ (heading_took c.in-Some-heading_of.heading c.in-Some.ensures.found c.in-Some-heading_of.ensures).taken

pub returns-clause-takes : goal.returns-clause-takes
returns-clause-takes c = record { leads = sym (ap place_of c.step.ensures ∙ (heading_took c.in-Some-heading_of.heading c.in-Some.ensures.found c.in-Some-heading_of.ensures).taken); same = ap (λ h. h.end) c.step.ensures ∙ ap (λ h. h.end) c.look.ensures.stays }

pub returns-clause-shorter : goal.returns-clause-shorter
returns-clause-shorter c = subst (λ y. left y < left c.args.self.now) (sym c.step.ensures) (heading_took c.in-Some-heading_of.heading c.in-Some.ensures.found c.in-Some-heading_of.ensures).shorter

pub returns-clause-begins : goal.returns-clause-begins
returns-clause-begins c = ap begin_of c.step.ensures ∙ begins_alike c.in-Some.seen.token.raw.now c.in-Some.seen.behind c.look.ensures.stays ∙ (heading_took c.in-Some-heading_of.heading c.in-Some.ensures.found c.in-Some-heading_of.ensures).begins
