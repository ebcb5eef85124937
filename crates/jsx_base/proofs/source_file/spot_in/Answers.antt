use Rattle.std.proofs.Common.{◌-◌, ◌+◌, length, get_or, ap, sym, ◌∙◌, arith}
use Rattle.std.specs.Str.{chars}
use Rattle.std.specs.List.{sum_by}
use Rattle.std.proofs.lemmas.Str.{length-le-encodes}
use Rattle.jsx_base.specs.Lines.{lines, front, size, columns_of}
use Rattle.jsx_base.proofs.LineAt.{starts_partitioned}
use Rattle.jsx_base.proofs.SpotAt.{SpotAt, spot_at, size_front}
use Rattle.jsx_base.proofs.source_file.spot_in.Goals as goal
use Rattle.jsx_base.proofs.source_file.spot_in.Goals.{After-lines_until-line, After-split_at, After-walk-walked}

at : (c : After-lines_until-line) → SpotAt c.args.text.now c.args.place c.lines_until-line.result (get_or c.args.line_starts.now (c.lines_until-line.result - 1) 0)
at c =
    let e = c.lines_until-line.ensures in
    spot_at c.args.text.now c.args.line_starts.now c.args.place c.lines_until-line.result c.utf8.text c.requires.starts e.bound e.until e.from

pub lines_until-line-requires : goal.lines_until-line-requires
lines_until-line-requires c = starts_partitioned c.args.place (lines (chars c.args.text.now)) c.args.line_starts.now c.requires.starts

pub overflow_sub-start : goal.overflow_sub-start
overflow_sub-start c = (at c).some

pub bounds-line_starts-line : goal.bounds-line_starts-line
bounds-line_starts-line c = let h = (at (goal.at.bounds-line_starts-line c).After-lines_until-line).some in omega (arith, h, c.lines_until-line.ensures.bound)

pub split_at-requires : goal.split_at-requires
split_at-requires c = (at (goal.at.split_at-requires c).After-lines_until-line).boundary

pub overflow_sub-place : goal.overflow_sub-place
overflow_sub-place c = (at (goal.at.overflow_sub-place c).After-lines_until-line).low

pub overflow_add-result : goal.overflow_add-result
overflow_add-result c =
    let s = get_or c.args.line_starts.now (c.lines_until-line.result - 1) 0 in
    let low = (at (goal.at.overflow_add-result c).After-lines_until-line).low in
    let few = size_front (chars c.split_at.result.1.now) (c.args.place - s) in
    omega (arith, low, few, c.walk-walked.ensures.bytes, c.ranges.place.fits)

pub returns-clause-line : goal.returns-clause-line
returns-clause-line c = sym (at (goal.at.returns-clause-line c).After-lines_until-line).line

pub returns-clause-col : goal.returns-clause-col
returns-clause-col c =
    let s = get_or c.args.line_starts.now (c.lines_until-line.result - 1) 0 in
    c.walk-walked.ensures.chars
    ∙ ap (λ bs. length (front (chars bs) (c.args.place - s))) c.split_at.ensures.back
    ∙ ap length (sym (at (goal.at.returns-clause-col c).After-lines_until-line).last)

pub returns-clause-col_display : goal.returns-clause-col_display
returns-clause-col_display c =
    let s = get_or c.args.line_starts.now (c.lines_until-line.result - 1) 0 in
    c.walk-walked.ensures.columns
    ∙ ap (λ bs. sum_by columns_of (front (chars bs) (c.args.place - s))) c.split_at.ensures.back
    ∙ ap (sum_by columns_of) (sym (at (goal.at.returns-clause-col_display c).After-lines_until-line).last)

pub returns-clause-before : goal.returns-clause-before
returns-clause-before c =
    let s = get_or c.args.line_starts.now (c.lines_until-line.result - 1) 0 in
    ap (λ n. s + n) (c.walk-walked.ensures.bytes ∙ ap (λ bs. size (front (chars bs) (c.args.place - s))) c.split_at.ensures.back)
    ∙ sym (at (goal.at.returns-clause-before c).After-lines_until-line).before

pub returns-clause-few : goal.returns-clause-few
returns-clause-few c =
    let s = get_or c.args.line_starts.now (c.lines_until-line.result - 1) 0 in
    let few = size_front (chars c.split_at.result.1.now) (c.args.place - s) in
    let less = length-le-encodes (front (chars c.split_at.result.1.now) (c.args.place - s)) in
    omega (arith, few, less, c.walk-walked.ensures.chars)
