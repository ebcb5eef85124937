use Rattle.std.proofs.Common.{arith}
use Rattle.std.proofs.lemmas.Grind.{common_steps}
use Rattle.jsx_base.proofs.source_mapper.show_places.Goals as goal

pub returns : goal.returns
returns c = grind (arith, common_steps)
