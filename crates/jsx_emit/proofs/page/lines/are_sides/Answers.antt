use Rattle.std.proofs.Common.{arith}
use Rattle.std.proofs.lemmas.Grind.{common_steps}
use Rattle.std.proofs.lemmas.List.Folds.{list_all-map, list_all_at}
use Rattle.jsx_draw.specs.Annotation.{Mark, is_side, mark_of}
use Rattle.jsx_emit.proofs.page.lines.are_sides.Goals as goal

pub returns-then-not-is_line : goal.returns-then-not-is_line
returns-then-not-is_line c = rw (list_all-map (λ (mark : Mark). is_side mark.kind) mark_of c.args.marks.now) (grind (arith, common_steps, list_all_at))

pub returns : goal.returns
returns c = rw (list_all-map (λ (mark : Mark). is_side mark.kind) mark_of c.args.marks.now) (grind (arith, common_steps))
