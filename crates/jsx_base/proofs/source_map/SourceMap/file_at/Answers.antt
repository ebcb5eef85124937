use Rattle.std.proofs.Common.{map, sym, subst}
use Rattle.jsx_base.specs.Files.{InOrder}
use Rattle.jsx_base.specs.SourceFile.{shared_file}
use Rattle.jsx_base.proofs.source_map.SourceMap.file_at.Goals as goal

pub file_in-requires : goal.file_in-requires
file_in-requires c = subst (λ files. InOrder (map shared_file files)) (sym c.deref.ensures.value) c.args.self.now.in_order
