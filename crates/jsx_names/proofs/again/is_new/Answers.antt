use Rattle.std.proofs.Common.{ap, ◌∙◌}
use Rattle.std.specs.Prelude.{not}
use Rattle.jsx_names.proofs.NameTests.{added_test}
use Rattle.jsx_names.proofs.again.is_new.Goals as goal

pub returns-clause-new : goal.returns-clause-new
returns-clause-new c = λ us h. c.in_ok-insert.ensures.added ∙ ap not (h c.args.name c.utf8.name)

pub returns-clause-added : goal.returns-clause-added
returns-clause-added c = λ us h w u. c.in_ok-insert.ensures.updates.0 w ∙ added_test c.args.name.now w.now _ _ c.utf8.name u (h w u)
