use Rattle.std.proofs.Common.{◌<◌, ap, sym, subst, string_bytes, arith}
use Rattle.std.specs.List.{All}
use Rattle.std.proofs.lemmas.Str.{IsUtf8-string_bytes}
use Rattle.jsx_base.specs.FileName.{name_of}
use Rattle.jsx_base.specs.Files.{end_of}
use Rattle.jsx_base.specs.SourceFile.{shared_file}
use Rattle.jsx_base.specs.SourceMap.{files_of}
use Rattle.jsx_base.proofs.FileOrder.{before_next}
use Rattle.jsx_base.proofs.source_map.SourceMap.new_source_file.Goals as goal

pub returns-clause-ready : goal.returns-clause-ready
returns-clause-ready c =
    let before = subst (λ n. All (λ file. end_of file < n) (files_of c.args.self.now)) (sym c.next_pos-start.ensures) c.requires in
    let moved = ap (λ it. it.next_pos) c.move_to.ensures in
    before_next (files_of c.args.self.now) (files_of c.add.new.self) (name_of c.args.name) (string_bytes c.args.src) c.next_pos-start.result c.move_to.new.self.next_pos (shared_file c.in-Ok.file) (IsUtf8-string_bytes c.args.src) before c.in-Ok.ensures.file c.in-Ok.ensures.added (omega (arith, moved, c.in-Some.ensures.0, c.len.ensures))
