use Rattle.std.proofs.Common.{sym, ◌∙◌}
use Rattle.jsx_draw.specs.Views.{spot_of}
use Rattle.jsx_draw.proofs.Loops.{begun_any, ending_any, single_any}
use Rattle.jsx_draw.proofs.marks.is_shown.Goals as goal

pub returns-then-is_single : goal.returns-then-is_single
returns-then-is_single c = single_any c.args.line (spot_of c.args.spot) (sym c.is_single.ensures ∙ c.if-is_single.true)

pub returns-then-is_begun : goal.returns-then-is_begun
returns-then-is_begun c = c.if-is_begun.true ∙ begun_any c.args.line (spot_of c.args.spot) (sym c.is_single.ensures ∙ c.if-is_single.false) (sym c.if-is_begun.true ∙ c.is_begun.ensures)

pub returns-else-is_begun : goal.returns-else-is_begun
returns-else-is_begun c = ending_any c.args.line (spot_of c.args.spot) c.is_ending.result (sym c.is_single.ensures ∙ c.if-is_single.false) (sym c.if-is_begun.false ∙ c.is_begun.ensures) c.is_ending.ensures
