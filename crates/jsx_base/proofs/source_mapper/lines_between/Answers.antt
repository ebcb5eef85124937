use Rattle.std.proofs.Common.{◌≡◌, ◌-◌, map, ap, ◌∙◌, arith}
use Rattle.std.specs.List.{range_with_len}
use Rattle.jsx_base.specs.Locs.{line_data}
use Rattle.jsx_base.specs.SourceFile.{file_of}
use Rattle.jsx_base.specs.SpanPlaces.{line_between}
use Rattle.jsx_base.proofs.Ranges.{made_more}
use Rattle.jsx_base.proofs.source_mapper.lines_between.Goals as goal

pub loop-index-preserved : goal.loop-index-preserved
loop-index-preserved c =
    let test = c.loop-index-test.true in record {
      are = made_more (line_between (file_of c.args.file.now) c.args.first c.args.last) line_data c.loop-index.lines.items c.push.new.self.items c.line_between.result c.saturating_sub-begin.result c.loop-index.index c.loop-index.auto.index c.loop-index.invariant.are c.line_between.ensures c.in_ok-push.ensures.items;
      most = omega (arith, test);
    }

pub returns : goal.returns
returns c =
    let begin = c.saturating_sub-begin.ensures in
    let most = c.loop-index.invariant.most in
    let past = c.loop-index-test.false in
    let low = c.loop-index.auto.index in
    let same : c.loop-index.index - c.saturating_sub-begin.result ≡ c.args.last.0 - c.saturating_sub-begin.result = omega (arith, most, past, low) in
    c.loop-index.invariant.are
    ∙ ap (λ n. map (line_between (file_of c.args.file.now) c.args.first c.args.last) (range_with_len c.saturating_sub-begin.result n)) same
    ∙ ap (λ a. map (line_between (file_of c.args.file.now) c.args.first c.args.last) (range_with_len a (c.args.last.0 - a))) begin
