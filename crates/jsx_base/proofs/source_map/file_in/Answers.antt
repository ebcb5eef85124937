use Rattle.std.proofs.Common.{◌<◌, ◌≤◌, sym, subst, arith}
use Rattle.jsx_base.specs.SourceFile.{shared_file}
use Rattle.jsx_base.proofs.FileAt.{find_no_file}
use Rattle.jsx_base.proofs.FileEnds.{file_found, file_missed}
use Rattle.jsx_base.proofs.source_map.file_in.Goals as goal

pub returns-then-begun-eq0 : goal.returns-then-begun-eq0
returns-then-begun-eq0 c =
    let none = c.if-begun-eq0.true in
    sym (find_no_file shared_file c.args.files.now c.args.pos (λ k d above within. c.files_until-begun.ensures.from k d (omega (arith, none)) within))

pub returns-then-pos-deref : goal.returns-then-pos-deref
returns-then-pos-deref c =
    let e = c.files_until-begun.ensures in
    let some = c.if-begun-eq0.false in
    file_found c.args.files.now c.args.pos c.files_until-begun.result c.index-files-begun.result c.requires (omega (arith, some)) e.bound e.until e.from c.index-files-begun.is (subst (λ it. c.args.pos ≤ it.end_pos.0) c.deref.ensures c.if-pos-deref.true)

pub returns-else-pos-deref : goal.returns-else-pos-deref
returns-else-pos-deref c =
    let e = c.files_until-begun.ensures in
    let some = c.if-begun-eq0.false in
    file_missed c.args.files.now c.args.pos c.files_until-begun.result c.index-files-begun.result c.requires (omega (arith, some)) e.bound e.until e.from c.index-files-begun.is (subst (λ it. it.end_pos.0 < c.args.pos) c.deref.ensures c.if-pos-deref.false)
