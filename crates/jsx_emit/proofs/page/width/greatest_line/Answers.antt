use Rattle.std.proofs.Common.{◌∙◌}
use Rattle.jsx_emit.proofs.Width.{line_more}
use Rattle.jsx_emit.proofs.page.width.greatest_line.Goals as goal

pub loop-label-preserved : goal.loop-label-preserved
loop-label-preserved g c =
    c.max-line.ensures
    ∙ line_more (g.M.SourceMapper.files c.args.cm.now) c.deref-label-items.result.now c.loop-label.label-index c.loop-label.line c.last_line.result c.label-item.result c.loop-label-test.true c.label-item.is c.loop-label.invariant c.last_line.ensures
