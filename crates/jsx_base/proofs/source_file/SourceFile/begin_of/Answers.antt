use Rattle.std.proofs.Common.{arith}
use Rattle.jsx_base.proofs.FileEnds.{before_end}
use Rattle.jsx_base.proofs.source_file.SourceFile.begin_of.Goals as goal

pub overflow_cast-result : goal.overflow_cast-result
overflow_cast-result c = omega (arith, before_end c.args.self.now c.args.pos.0, c.args.self.now.short, c.spot.ensures.before)

pub overflow_add-result : goal.overflow_add-result
overflow_add-result c = omega (arith, before_end c.args.self.now c.args.pos.0, c.args.self.now.short, c.spot.ensures.before)
