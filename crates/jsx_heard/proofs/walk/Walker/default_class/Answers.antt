use Rattle.jsx_heard.specs.Said.{met_all}
use Rattle.jsx_heard.proofs.SaidDefault.{class_there, default_there}
use Rattle.jsx_heard.proofs.walk.Walker.default_class.Goals as goal

pub returns-in-Class : goal.returns-in-Class
returns-in-Class c = class_there c.named_class.result c.args.class.now c.in-Class.field-0 c.in-Class.name c.in-Class.parent c.in-Class.members c.deref.result.now (met_all c.args.events.now.items) (met_all c.named_class.new.events.items) c.in-Class.is c.deref.ensures.value c.named_class.ensures

pub returns-in_default : goal.returns-in_default
returns-in_default c = default_there c.expr.result c.args.class.now (met_all c.args.events.now.items) (met_all c.expr.new.events.items) c.in_default.not-Ident c.in_default.not-Class c.expr.ensures
