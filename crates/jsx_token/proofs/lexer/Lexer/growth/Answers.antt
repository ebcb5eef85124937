use Rattle.std.proofs.Common.{◌<◌, not, arith, sym, ap, ◌∙◌, subst}
use Rattle.std.proofs.lemmas.Bool.{le-leb, lt-leb}
use Rattle.jsx_token.specs.Here.{place_of, left}
use Rattle.jsx_token.specs.Growths.{rung, settled}
use Rattle.jsx_token.proofs.TakingGrowths.{none_goes, other_goes, below_goes, line_goes, line_stays, growth_took}
use Rattle.jsx_token.proofs.lexer.Lexer.growth.Goals as goal

pub returns-in_default-clause-missing : goal.returns-in_default-clause-missing
returns-in_default-clause-missing c = none_goes c.args.level c.in_default.ensures.found

pub returns-in_default-growth_of-clause-missing : goal.returns-in_default-growth_of-clause-missing
returns-in_default-growth_of-clause-missing c = other_goes (rung c.args.level) c.requires c.in-Some.ensures.found (sym c.growth_of.ensures ∙ c.in_default-growth_of.is)

pub returns-then-level-clause-missing : goal.returns-then-level-clause-missing
returns-then-level-clause-missing c = below_goes (rung c.args.level) c.in-Some-growth_of.growth c.requires c.in-Some.ensures.found (sym c.growth_of.ensures ∙ c.in-Some-growth_of.is) (lt-leb _ _ (omega (arith, c.if-level.true, c.level.ensures)))

pub returns-then-is_late-clause-missing : goal.returns-then-is_late-clause-missing
returns-then-is_late-clause-missing c = line_goes (rung c.args.level) c.in-Some-growth_of.growth c.requires c.in-Some.ensures.found (sym c.growth_of.ensures ∙ c.in-Some-growth_of.is) (sym c.is_late.ensures ∙ c.if-is_late.true)

pub returns-clause-on_line : goal.returns-clause-on_line
returns-clause-on_line c = line_stays c.in-Some-growth_of.growth c.in-Some.ensures.found (sym c.is_late.ensures ∙ c.if-is_late.false)

pub returns-clause-ended : goal.returns-clause-ended
returns-clause-ended c = ap (λ h. settled (place_of h)) c.step.ensures ∙ ap not (growth_took c.in-Some-growth_of.growth c.in-Some.ensures.found (sym c.growth_of.ensures ∙ c.in-Some-growth_of.is)).full

pub step-requires-clause-full : goal.step-requires-clause-full
step-requires-clause-full c = (growth_took c.in-Some-growth_of.growth c.in-Some.ensures.found (sym c.growth_of.ensures ∙ c.in-Some-growth_of.is)).full

pub returns-clause-taken : goal.returns-clause-taken
returns-clause-taken c = ap place_of c.step.ensures ∙ (growth_took c.in-Some-growth_of.growth c.in-Some.ensures.found (sym c.growth_of.ensures ∙ c.in-Some-growth_of.is)).taken

pub returns-clause-takes : goal.returns-clause-takes
returns-clause-takes c = record { leads = sym (ap place_of c.step.ensures ∙ (growth_took c.in-Some-growth_of.growth c.in-Some.ensures.found (sym c.growth_of.ensures ∙ c.in-Some-growth_of.is)).taken); same = ap (λ h. h.end) c.step.ensures ∙ ap (λ h. h.end) c.look.ensures.stays }

pub returns-clause-reaches : goal.returns-clause-reaches
returns-clause-reaches c = le-leb _ _ (omega (arith, c.if-level.false, c.level.ensures))

pub returns-clause-shorter : goal.returns-clause-shorter
returns-clause-shorter c = subst (λ y. left y < left c.args.self.now) (sym c.step.ensures) (growth_took c.in-Some-growth_of.growth c.in-Some.ensures.found (sym c.growth_of.ensures ∙ c.in-Some-growth_of.is)).shorter
