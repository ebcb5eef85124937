use Rattle.std.proofs.Common.{sym, ◌∙◌, arith}
use Rattle.std.proofs.lemmas.Grind.{common_steps}
use Rattle.jsx_base.proofs.Spans.{list_any-map}
use Rattle.jsx_diag.proofs.Splicing.{none_more, some_at}
use Rattle.jsx_draw.specs.Annotation.{mark_of}
use Rattle.jsx_draw.specs.Drawn.{marks_meet}
use Rattle.jsx_draw.specs.Views.{seen_mark}
use Rattle.jsx_draw.proofs.layout.meets_later.Goals as goal

pub loop-other-preserved : goal.loop-other-preserved
loop-other-preserved c = none_more (λ other. marks_meet c.args.row (mark_of c.args.mark.now) (seen_mark other)) c.args.later.now c.loop-other.other-index c.other-item.result c.loop-other-test.true c.other-item.is (sym c.meets.ensures ∙ c.if-meets.false) c.loop-other.invariant

pub returns-then-meets : goal.returns-then-meets
returns-then-meets c =
    sym (list_any-map (marks_meet c.args.row (mark_of c.args.mark.now)) seen_mark c.args.later.now
    ∙ some_at (λ other. marks_meet c.args.row (mark_of c.args.mark.now) (seen_mark other)) c.args.later.now c.loop-other.other-index c.other-item.result c.loop-other-test.true c.other-item.is (sym c.meets.ensures ∙ c.if-meets.true))

pub returns : goal.returns
returns c = rw (list_any-map (marks_meet c.args.row (mark_of c.args.mark.now)) seen_mark c.args.later.now) (grind (arith, common_steps))
