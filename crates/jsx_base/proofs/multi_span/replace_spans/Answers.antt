use Rattle.std.proofs.Common.{arith}
use Rattle.std.proofs.lemmas.Grind.{common_steps}
use Rattle.jsx_base.specs.MultiSpan.{is_span, replaced}
use Rattle.jsx_base.proofs.Spans.{replaced_more}
use Rattle.jsx_base.proofs.multi_span.replace_spans.Goals as goal

pub loop-span-preserved : goal.loop-span-preserved
loop-span-preserved c =
    let step = replaced_more (is_span c.args.before) (replaced c.args.before c.args.after) c.args.spans.now c.loop-span.spans c.loop-span.span-index _ c.loop-span.found c.replace_one-found.result c.replace_one-found.new.span c.loop-span-test.true c.loop-span.auto.spans c.loop-span.invariant.found c.loop-span.invariant.spans c.replace_one-found.ensures.found c.replace_one-found.ensures.span in
    record { found = step.0; spans = step.1 }

pub returns-clause-found : goal.returns-clause-found
returns-clause-found c = grind (arith, common_steps)

pub returns-clause-spans : goal.returns-clause-spans
returns-clause-spans c = grind (arith, common_steps)
