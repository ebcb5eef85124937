use Rattle.std.proofs.Common.{◌+◌, ◌∙◌, ap}
use Rattle.std.specs.Str.{chars}
use Rattle.jsx_emit.specs.Page.{blanks}
use Rattle.jsx_emit.proofs.Ways.{blanks_spelled, further_last_if, further_next}
use Rattle.jsx_emit.proofs.page.suggestions.draw_further.Goals as goal

pub loop-line-preserved : goal.loop-line-preserved
loop-line-preserved c = record {
  is_text = c.in-Some.ensures.text;
  left = further_next (c.args.width + 15) c.as_str.result.now c.loop-line.rest.now c.in-Some.line.now c.in-Some.behind.now c.loop-line.buffer c.draw_row.new.buffer _ (ap chars (c.as_str.ensures.value ∙ c.in_ok-indent.ensures ∙ ap blanks c.in_ok-sum.ensures) ∙ blanks_spelled (c.args.width + 15)) c.in-Some.ensures c.in_ok-draw_row.ensures c.loop-line.invariant.left;
}

pub returns : goal.returns
returns c = further_last_if (c.args.width + 15) c.as_str-2.result.now c.loop-line.rest.now c.loop-line.buffer c.draw_row-2.new.buffer _ c.draw_row-2.result (ap chars (c.as_str-2.ensures.value ∙ c.in_ok-indent.ensures ∙ ap blanks c.in_ok-sum.ensures) ∙ blanks_spelled (c.args.width + 15)) c.in_default.ensures c.draw_row-2.ensures c.loop-line.invariant.left
