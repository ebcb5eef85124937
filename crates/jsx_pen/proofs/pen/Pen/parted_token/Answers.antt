use Rattle.std.proofs.Common.{◌∙◌, ap}
use Rattle.std.proofs.lemmas.Result.{on_ok_weaker}
use Rattle.std.specs.Str.{chars}
use Rattle.jsx_pen.specs.Pen.{blank, raw}
use Rattle.jsx_pen.proofs.Writing.{ink_plain}
use Rattle.jsx_pen.proofs.pen.Pen.parted_token.Goals as goal

pub returns : goal.returns
returns c =
    let t = chars c.args.piece.now in
    let p = c.args.self.now in
    on_ok_weaker c.put-2.result (λ d. d ∙ ap (λ q. raw q t) (c.in_ok-put.ensures ∙ ap (raw p) (c.blank-blank.ensures ∙ ap (λ q. blank q.gap t) c.self.view_is)) ∙ ink_plain p t) c.put-2.ensures
