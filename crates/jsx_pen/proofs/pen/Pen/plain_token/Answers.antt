use Rattle.std.proofs.Common.{◌∙◌, ap, sym}
use Rattle.std.proofs.lemmas.Result.{on_ok_weaker}
use Rattle.std.specs.Str.{chars}
use Rattle.jsx_pen.proofs.Writing.{settled_plain}
use Rattle.jsx_pen.proofs.pen.Pen.plain_token.Goals as goal

pub returns-in-Settled : goal.returns-in-Settled
returns-in-Settled c = on_ok_weaker c.put.result (λ d. d ∙ settled_plain c.args.self.now (chars c.args.piece.now) (sym (ap (λ q. q.gap) c.self.view_is) ∙ c.in-Settled.is)) c.put.ensures
