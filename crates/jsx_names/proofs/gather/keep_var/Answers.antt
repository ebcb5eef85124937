use Rattle.std.proofs.Common.{sym, ◌∙◌}
use Rattle.std.specs.Ordering.{nat_cmp}
use Rattle.std.specs.BTreeMap.{get}
use Rattle.std.proofs.lemmas.Result.{on_ok_weaker}
use Rattle.jsx_names.specs.Shadowed.{held, standing}
use Rattle.jsx_names.proofs.Keeping.{homed, homeless}
use Rattle.jsx_names.proofs.gather.keep_var.Goals as goal

pub returns-in-Some : goal.returns-in-Some
returns-in-Some c = on_ok_weaker c.add.result
    (λ e h b. e b ∙ homed b c.in-Some.number c.args.kept (standing c.args.scopes.now) (held (get nat_cmp c.args.lists.now b)) c.requires c.if-kept.false (sym (c.in-Some.ensures h)))
    c.add.ensures

pub returns-in-None : goal.returns-in-None
returns-in-None c = λ h b. homeless b c.args.kept (standing c.args.scopes.now) (held (get nat_cmp c.args.lists.now b)) c.requires c.if-kept.false (sym (c.in-None.ensures h))
