use Rattle.std.proofs.Common.{◌<◌, not, refl, sym, ap, ◌∙◌, subst}
use Rattle.jsx_token.specs.Here.{place_of, left}
use Rattle.jsx_token.specs.Growths.{callee, settled}
use Rattle.jsx_token.proofs.TakingGrowths.{none_goes, other_goes, below_goes, called_stays, growth_took}
use Rattle.jsx_token.proofs.lexer.Lexer.member_growth.Goals as goal

pub returns-in_default-clause-missing : goal.returns-in_default-clause-missing
returns-in_default-clause-missing c = none_goes 100 c.in_default.ensures.found

pub returns-in_default-growth_of-clause-missing : goal.returns-in_default-growth_of-clause-missing
returns-in_default-growth_of-clause-missing c = other_goes callee refl c.in-Some.ensures.found (sym c.growth_of.ensures ∙ c.in_default-growth_of.is)

pub returns-then-not-is_member-clause-missing : goal.returns-then-not-is_member-clause-missing
returns-then-not-is_member-clause-missing c = below_goes callee c.in-Some-growth_of.growth refl c.in-Some.ensures.found (sym c.growth_of.ensures ∙ c.in-Some-growth_of.is) (sym c.is_member.ensures ∙ c.if-not-is_member.true)

pub returns-clause-on_line : goal.returns-clause-on_line
returns-clause-on_line c = called_stays c.in-Some-growth_of.growth (sym c.is_member.ensures ∙ c.if-not-is_member.false)

pub returns-clause-reaches : goal.returns-clause-reaches
returns-clause-reaches c = sym c.is_member.ensures ∙ c.if-not-is_member.false

pub returns-clause-ended : goal.returns-clause-ended
returns-clause-ended c = ap (λ h. settled (place_of h)) c.step.ensures ∙ ap not (growth_took c.in-Some-growth_of.growth c.in-Some.ensures.found (sym c.growth_of.ensures ∙ c.in-Some-growth_of.is)).full

pub step-requires-clause-full : goal.step-requires-clause-full
step-requires-clause-full c = (growth_took c.in-Some-growth_of.growth c.in-Some.ensures.found (sym c.growth_of.ensures ∙ c.in-Some-growth_of.is)).full

pub returns-clause-taken : goal.returns-clause-taken
returns-clause-taken c = ap place_of c.step.ensures ∙ (growth_took c.in-Some-growth_of.growth c.in-Some.ensures.found (sym c.growth_of.ensures ∙ c.in-Some-growth_of.is)).taken

pub returns-clause-takes : goal.returns-clause-takes
returns-clause-takes c = record { leads = sym (ap place_of c.step.ensures ∙ (growth_took c.in-Some-growth_of.growth c.in-Some.ensures.found (sym c.growth_of.ensures ∙ c.in-Some-growth_of.is)).taken); same = ap (λ h. h.end) c.step.ensures ∙ ap (λ h. h.end) c.look.ensures.stays }

pub returns-clause-shorter : goal.returns-clause-shorter
returns-clause-shorter c = subst (λ y. left y < left c.args.self.now) (sym c.step.ensures) (growth_took c.in-Some-growth_of.growth c.in-Some.ensures.found (sym c.growth_of.ensures ∙ c.in-Some-growth_of.is)).shorter
