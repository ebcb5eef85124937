use Rattle.std.proofs.Common.{sym, ◌∙◌, arith}
use Rattle.std.proofs.lemmas.Grind.{common_steps}
use Rattle.jsx_base.proofs.Spans.{list_any-map}
use Rattle.jsx_diag.proofs.Splicing.{none_more, some_at}
use Rattle.jsx_draw.specs.Annotation.{mark_of}
use Rattle.jsx_draw.specs.Drawn.{mark_overlaps}
use Rattle.jsx_draw.specs.Views.{seen_mark}
use Rattle.jsx_draw.proofs.layout.is_overlapped.Goals as goal

pub loop-other-preserved : goal.loop-other-preserved
loop-other-preserved c = none_more (λ other. mark_overlaps 0 (seen_mark other) (mark_of c.args.mark.now)) c.args.later.now c.loop-other.other-index c.other-item.result c.loop-other-test.true c.other-item.is (sym c.overlaps.ensures ∙ c.if-overlaps.false) c.loop-other.invariant

pub returns-then-overlaps : goal.returns-then-overlaps
returns-then-overlaps c =
    sym (list_any-map (λ other. mark_overlaps 0 other (mark_of c.args.mark.now)) seen_mark c.args.later.now
    ∙ some_at (λ other. mark_overlaps 0 (seen_mark other) (mark_of c.args.mark.now)) c.args.later.now c.loop-other.other-index c.other-item.result c.loop-other-test.true c.other-item.is (sym c.overlaps.ensures ∙ c.if-overlaps.true))

pub returns : goal.returns
returns c = rw (list_any-map (λ other. mark_overlaps 0 other (mark_of c.args.mark.now)) seen_mark c.args.later.now) (grind (arith, common_steps))
