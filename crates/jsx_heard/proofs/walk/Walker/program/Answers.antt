use Rattle.std.proofs.Common.{[], ◌∷◌, ◌++◌, ap, ◌∙◌}
use Rattle.jsx_names.specs.declared.event.Event.TheVariants.{Closes}
use Rattle.jsx_heard.proofs.SaidPrograms.{module_there, script_there}
use Rattle.jsx_heard.proofs.walk.Walker.program.Goals.{in-Module+in_ok-push-in-Module+in_ok-items-in-Module, in-Script+in_ok-push-in-Script+in_ok-stmts-in-Script}
use Rattle.jsx_heard.proofs.walk.Walker.program.Goals as goal

pub returns : goal.returns
returns c = elim c.match-program.branch [
  | in-Module+in_ok-push-in-Module+in_ok-items-in-Module w ↦
      module_there c.args.program.now w.in-Module.module w.deref.result.now c.args.events.now.items w.push.new.self.items w.items.new.events.items c.push-2.new.self.items
      w.in-Module.is w.deref.ensures.value w.in_ok-push-in-Module.ensures.items w.in_ok-items-in-Module.ensures (c.in_ok-push.ensures.items ∙ ap (λ v. v.items ++ Closes ∷ []) w.events-is)
  | in-Script+in_ok-push-in-Script+in_ok-stmts-in-Script w ↦
      script_there c.args.program.now w.in-Script.script w.deref-in-Script.result.now c.args.events.now.items w.push-in-Script.new.self.items w.stmts.new.events.items c.push-2.new.self.items
      w.in-Script.is w.deref-in-Script.ensures.value w.in_ok-push-in-Script.ensures.items w.in_ok-stmts-in-Script.ensures (c.in_ok-push.ensures.items ∙ ap (λ v. v.items ++ Closes ∷ []) w.events-is)
]
