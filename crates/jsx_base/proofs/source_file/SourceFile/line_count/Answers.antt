use Rattle.std.proofs.Common.{length, ap, ◌∙◌, string_bytes}
use Rattle.std.specs.Str.{chars}
use Rattle.jsx_base.specs.Lines.{lines}
use Rattle.jsx_base.proofs.LineAt.{length-starts}
use Rattle.jsx_base.proofs.source_file.SourceFile.line_count.Goals as goal

pub returns : goal.returns
returns c =
    ap length (c.as_slice.ensures.value ∙ c.args.self.now.line_starts_are)
    ∙ length-starts 0 (lines (chars (string_bytes c.args.self.now.src)))
