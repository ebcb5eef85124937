use Rattle.jsx_emit.proofs.Marks.{one_line_is}
use Rattle.jsx_emit.proofs.page.part_marks.is_one_line.Goals as goal

pub returns : goal.returns
returns c = one_line_is (λ it. it.0.now) (λ it. it.1.now) c.args.source.now c.split_line.result c.is_none.result c.is_none.ensures c.split_line.ensures
