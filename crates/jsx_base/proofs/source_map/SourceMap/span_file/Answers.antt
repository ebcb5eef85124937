use Rattle.std.proofs.Common.{◌≡◌, Some, ap, sym, ◌∙◌, arith}
use Rattle.jsx_base.specs.Files.{file_at}
use Rattle.jsx_base.specs.SourceFile.{shared_file}
use Rattle.jsx_base.specs.SourceMap.{files_of}
use Rattle.jsx_base.specs.SpanPlaces.{low, high}
use Rattle.jsx_base.proofs.FileEnds.{also_held, not_held}
use Rattle.jsx_base.proofs.source_map.SourceMap.span_file.Goals as goal

pub returns-then-high-deref : goal.returns-then-high-deref
returns-then-high-deref c =
    let files = files_of c.args.self.now in
    let found : file_at files (low c.args.sp) ≡ Some (shared_file c.in-Some.file.now) = ap (file_at files) (sym c.min-low.ensures) ∙ sym c.in-Some.ensures in
    let inside = c.if-high-deref.true in
    let is = ap (λ it. it.end_pos.0) c.deref.ensures in
    also_held files (low c.args.sp) (high c.args.sp) c.in-Some.file.now.value found (omega arith) (omega (arith, inside, is, c.max-high.ensures))

pub returns-else-high-deref : goal.returns-else-high-deref
returns-else-high-deref c =
    let files = files_of c.args.self.now in
    let found : file_at files (low c.args.sp) ≡ Some (shared_file c.in-Some.file.now) = ap (file_at files) (sym c.min-low.ensures) ∙ sym c.in-Some.ensures in
    let outside = c.if-high-deref.false in
    let is = ap (λ it. it.end_pos.0) c.deref.ensures in
    not_held files (low c.args.sp) (high c.args.sp) c.in-Some.file.now.value found (omega (arith, outside, is, c.max-high.ensures))
