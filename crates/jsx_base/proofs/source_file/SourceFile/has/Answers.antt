use Rattle.std.proofs.Common.{◌&&◌, nat_le, ap, sym, ◌∙◌}
use Rattle.jsx_base.specs.Files.{end_of}
use Rattle.jsx_base.specs.SourceFile.{file_of}
use Rattle.jsx_base.proofs.FileEnds.{end_is, le_true}
use Rattle.jsx_base.proofs.source_file.SourceFile.has.Goals as goal

pub returns-then-self-pos : goal.returns-then-self-pos
returns-then-self-pos c =
    ap (λ n. nat_le c.args.pos n) (end_is c.args.self.now)
    ∙ sym (ap (λ b. b && nat_le c.args.pos (end_of (file_of c.args.self.now))) (le_true c.args.self.now.start_pos.0 c.args.pos c.if-self-pos.true))
