use Rattle.std.proofs.Common.{◌∙◌, map, string_bytes}
use Rattle.std.specs.Str.{chars}
use Rattle.jsx_pen.specs.Pen.{portion_of}
use Rattle.jsx_pen.proofs.Writing.{parted_minus}
use Rattle.jsx_pen.proofs.pen.Pen.minus.Goals as goal

pub returns : goal.returns
returns c = parted_minus c.args.self.now (map portion_of c.self.inside.done.items) (chars (string_bytes c.self.inside.text)) c.self.inside.depth c.self.inside.gap (map (λ b. b.0) c.self.inside.due.items) (c.self.view_is ∙ c.in_ok-sign.ensures)
