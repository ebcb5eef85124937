use Rattle.std.proofs.Common.{[], ◌∷◌, ◌++◌, ap, ◌∙◌}
use Rattle.jsx_tree.specs.Clashes.{AtName}
use Rattle.jsx_names.specs.Events.{Exports}
use Rattle.jsx_heard.specs.Said.{met, met_all}
use Rattle.jsx_heard.proofs.Hearing.{pushed}
use Rattle.jsx_heard.proofs.Spelled.{spelled_default}
use Rattle.jsx_heard.proofs.program.export_default.Goals as goal

pub returns : goal.returns
returns c = pushed c.args.events.now.items c.push.new.self.items _ c.in_ok-push.ensures.items ∙ ap (λ t. met_all c.args.events.now.items ++ (met (Exports t (AtName [])) c.args.word ∷ [])) spelled_default
