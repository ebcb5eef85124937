use Rattle.std.proofs.Common.{[], ◌∷◌, ◌++◌, ap, cond, ◌∙◌}
use Rattle.jsx_draw.specs.Drawn.{bar_of, goes_to}
use Rattle.jsx_draw.specs.Views.{shown_line, wide_of}
use Rattle.jsx_draw.proofs.Loops.{flat_all, flat_next}
use Rattle.jsx_draw.proofs.marks.bars_to.Goals as goal

pub loop-wide-preserved : goal.loop-wide-preserved
loop-wide-preserved c = record { so = flat_next (bar_of (goes_to (shown_line c.args.at))) wide_of c.args.wides.now c.loop-wide.wide-index c.wide-item.result [] c.loop-wide.bars.items c.push_if.new.bars.items c.loop-wide-test.true c.wide-item.is c.loop-wide.invariant.so (c.in_ok-push_if.ensures ∙ ap (λ b. c.loop-wide.bars.items ++ cond b (c.wide-item.result.depth ∷ []) []) c.goes_to.ensures) }

pub returns : goal.returns
returns c = flat_all (bar_of (goes_to (shown_line c.args.at))) wide_of c.args.wides.now c.loop-wide.wide-index [] c.loop-wide.bars.items c.loop-wide-test.false c.loop-wide.invariant.so
