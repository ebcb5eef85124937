use Rattle.std.proofs.Common.{ap, ◌∙◌}
use Rattle.std.specs.Option.{unwrap_or}
use Rattle.jsx_names.specs.Tables.{unseen}
use Rattle.jsx_names.proofs.NameTests.{found_test}
use Rattle.jsx_names.proofs.seen.set.Goals as goal

pub returns : goal.returns
returns c = λ n w u. ap (λ z. unwrap_or z unseen) (c.in_ok-insert.ensures.updates.0 (n, w)) ∙ found_test c.args.scope n c.args.name.now w.now c.args.seen unseen _ c.utf8.name u
