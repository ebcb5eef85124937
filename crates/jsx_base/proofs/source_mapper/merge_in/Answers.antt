use Rattle.std.proofs.Common.{ap, sym, ◌∙◌, arith}
use Rattle.jsx_base.specs.Files.{File, front_at, holds}
use Rattle.jsx_base.specs.Lines.{line_of}
use Rattle.jsx_base.specs.SourceFile.{file_of}
use Rattle.jsx_base.specs.SpanPlaces.{begin_of}
use Rattle.jsx_base.proofs.FileEnds.{merge_some}
use Rattle.jsx_base.proofs.source_mapper.merge_in.Goals as goal

pub returns : goal.returns
returns c =
    let file : File = file_of c.args.file.now in
    let left = c.ends.ensures in
    let right = c.ends-2.ensures in
    let ending = ap (begin_of file) (sym left.high) ∙ sym c.begin_of.ensures in
    let beginning = c.begin_of-2.ensures ∙ ap (begin_of file) right.low in
    let order = c.if-begin_of.false in
    merge_some file c.args.left c.args.right c.begin_of-3.result c.begin_of-4.result
    (ap (λ n. holds n file) (sym right.low) ∙ sym c.has.ensures ∙ c.if-not-has.false)
    (ap (λ n. holds n file) (sym right.high) ∙ sym c.has-2.ensures ∙ c.if-not-has-2.false)
    (ap (λ n. line_of (front_at file n)) (sym left.high) ∙ sym c.spot.ensures.line ∙ c.if-spot.false ∙ c.spot-2.ensures.line ∙ ap (λ n. line_of (front_at file n)) right.low)
    (omega (arith, ending, beginning, order))
    (c.begin_of-3.ensures ∙ ap (begin_of file) left.low)
    (c.begin_of-4.ensures ∙ ap (begin_of file) right.high)
