use Rattle.std.proofs.Common.{◌||◌, sym, ap, subst, ◌∙◌}
use Rattle.std.specs.Str.{chars}
use Rattle.jsx_base.specs.Token.{Blank}
use Rattle.jsx_lex.specs.Gaps.{IsBehind, Leads}
use Rattle.jsx_lex.proofs.Endings.{ends_behind, ends_within}
use Rattle.jsx_lex.proofs.Gaps.{join, flagged, without_gap}
use Rattle.jsx_lex.proofs.gap.skip.Goals as goal

pub loop-c-preserved-then-has_new_line : goal.loop-c-preserved-then-has_new_line
loop-c-preserved-then-has_new_line c =
    let l = c.loop-c in
    let p : Leads Blank (chars l.rest.now) Blank (chars c.in-Part.part.rest.now) c.in-Part.part.has_new_line =
    subst (λ w. Leads Blank w Blank (chars c.in-Part.part.rest.now) c.in-Part.part.has_new_line) (sym c.in-Some.ensures.chars_are) c.in-Part.ensures.is in
    record {
      leads = flagged _ _ _ _ _ _ (ap (λ b. b || c.in-Part.part.has_new_line) c.if-has_new_line.true ∙ sym c.if-has_new_line.true) (join _ _ _ _ _ _ _ _ l.invariant.leads p);
      ends = ends_within _ _ _ (ends_behind _ _ _ _ l.invariant.ends c.in-Some.ensures) c.in-Part.ensures.ends.ends;
      text = c.in-Part.ensures.ends.text;
    }

pub loop-c-preserved : goal.loop-c-preserved
loop-c-preserved c =
    let l = c.loop-c in
    let p : Leads Blank (chars l.rest.now) Blank (chars c.in-Part.part.rest.now) c.in-Part.part.has_new_line =
    subst (λ w. Leads Blank w Blank (chars c.in-Part.part.rest.now) c.in-Part.part.has_new_line) (sym c.in-Some.ensures.chars_are) c.in-Part.ensures.is in
    record {
      leads = flagged _ _ _ _ _ _ (ap (λ b. b || c.in-Part.part.has_new_line) c.if-has_new_line.false) (join _ _ _ _ _ _ _ _ l.invariant.leads p);
      ends = ends_within _ _ _ (ends_behind _ _ _ _ l.invariant.ends c.in-Some.ensures) c.in-Part.ensures.ends.ends;
      text = c.in-Part.ensures.ends.text;
    }

pub returns-in-Over-clause-cut : goal.returns-in-Over-clause-cut
returns-in-Over-clause-cut c =
    let l = c.loop-c in
    l.invariant.leads.cut_is ∙ (without_gap (chars l.rest.now) (subst IsBehind (sym c.in-Some.ensures.chars_are) c.in-Over.ensures.is)).cut_is
