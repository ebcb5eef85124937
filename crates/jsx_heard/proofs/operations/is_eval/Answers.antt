use Rattle.std.proofs.Common.{codes}
use Rattle.std.proofs.lemmas.Slice.Eq.{slice_eq-Decides}
use Rattle.std.proofs.lemmas.Bool.Decides.{Decides-eqb}
use Rattle.jsx_heard.proofs.Evals.{same_eval}
use Rattle.jsx_heard.proofs.operations.is_eval.Goals as goal

pub returns : goal.returns
returns c = same_eval c.characters.result.now _ c.eq.result c.characters.utf8 c.characters.ensures (slice_eq-Decides Decides-eqb c.characters.result.now (codes "eval") c.eq.result c.eq.ensures)
