use Rattle.std.proofs.Common.{◌-◌, ◌∙◌}
use Rattle.jsx_draw.proofs.Loops.{begun_far, begun_low, begun_near, not_less}
use Rattle.jsx_draw.proofs.marks.is_begun.Goals as goal

pub returns-then-line-first : goal.returns-then-line-first
returns-then-line-first c = begun_low c.args.line c.args.first c.args.last c.if-line-first.true

pub returns-then-line-first-lt4 : goal.returns-then-line-first-lt4
returns-then-line-first-lt4 c = begun_near c.args.line c.args.first c.args.last c.if-line-first.false c.if-line-first-lt4.true

pub returns-else-line-first-lt4 : goal.returns-else-line-first-lt4
returns-else-line-first-lt4 c = not_less (c.args.line - c.args.first) 4 c.if-line-first-lt4.false ∙ begun_far c.args.line c.args.first c.args.last c.if-line-first.false c.if-line-first-lt4.false
