use Rattle.std.proofs.Common.{◌≡◌, ◌+◌, ◌<◌, length, take, subst, sym, arith}
use Rattle.std.specs.Str.{chars}
use Rattle.jsx_base.specs.Lines.{lines}
use Rattle.jsx_emit.specs.declared.page.sources.Row.{Row}
use Rattle.jsx_emit.specs.Written.{end_row, sources_drawn}
use Rattle.jsx_emit.proofs.Ways.{cut_full, cut_last, line_cut, line_next, lines_full, lines_last, lines_left, row_full, row_last, row_next}
use Rattle.jsx_emit.proofs.page.ways.draw_lines.Goals as goal

pub loop-line-preserved : goal.loop-line-preserved
loop-line-preserved c =
    let at = c.loop-line.at in
    let it = c.loop-line.invariant in
    let few = it.few in
    let other = c.if-count-eq-MAX_HIGHLIGHT_LINES.false in
    let less : c.loop-line.count < 6 = omega (arith, few, other) in
    let start = sources_drawn c.args.first.look.ui_testing c.args.first.width c.args.first.row c.args.first.line (take 6 (lines (chars c.args.source.now))) c.args.buffer.now in
    record {
      is_text = c.in-Some.ensures.text;
      few = omega (arith, less);
      left =
          subst (λ (r : Row). sources_drawn r.look.ui_testing r.width r.row r.line (lines_left (c.loop-line.count + 1) c.in-Some.behind.now) c.draw_source.new.buffer ≡ start) (sym c.in_ok-at.ensures)
          (line_next at.look.ui_testing at.width at.row at.line c.loop-line.count c.loop-line.rest.now c.in-Some.line.now c.in-Some.behind.now c.loop-line.buffer c.draw_source.new.buffer start less c.in-Some.ensures c.in_ok-draw_source.ensures it.left);
      below =
          subst (λ (r : Row). r.row + length (lines_left (c.loop-line.count + 1) c.in-Some.behind.now) ≡ end_row c.args.first.row (chars c.args.source.now)) (sym c.in_ok-at.ensures)
          (row_next at.row c.loop-line.count _ c.loop-line.rest.now c.in-Some.line.now c.in-Some.behind.now less c.in-Some.ensures it.below);
      cut = line_cut c.loop-line.count c.loop-line.rest.now c.in-Some.line.now c.in-Some.behind.now _ less c.in-Some.ensures it.cut;
    }

pub returns-then-count-eq-MAX_HIGHLIGHT_LINES-clause-drawn : goal.returns-then-count-eq-MAX_HIGHLIGHT_LINES-clause-drawn
returns-then-count-eq-MAX_HIGHLIGHT_LINES-clause-drawn c =
    let at = c.loop-line.at in
    lines_full at.look.ui_testing at.width at.row at.line c.loop-line.count c.loop-line.rest.now c.loop-line.buffer _ c.if-count-eq-MAX_HIGHLIGHT_LINES.true c.loop-line.invariant.left

pub returns-then-count-eq-MAX_HIGHLIGHT_LINES-clause-row : goal.returns-then-count-eq-MAX_HIGHLIGHT_LINES-clause-row
returns-then-count-eq-MAX_HIGHLIGHT_LINES-clause-row c = row_full c.loop-line.at.row c.loop-line.count _ c.loop-line.rest.now c.if-count-eq-MAX_HIGHLIGHT_LINES.true c.loop-line.invariant.below

pub returns-then-count-eq-MAX_HIGHLIGHT_LINES-clause-cut : goal.returns-then-count-eq-MAX_HIGHLIGHT_LINES-clause-cut
returns-then-count-eq-MAX_HIGHLIGHT_LINES-clause-cut c = cut_full c.loop-line.count c.loop-line.rest.now (chars c.in-Some.line.now) (lines (chars c.in-Some.behind.now)) _ c.if-count-eq-MAX_HIGHLIGHT_LINES.true c.in-Some.ensures.lines_are c.loop-line.invariant.cut

pub returns-then-count-eq-MAX_HIGHLIGHT_LINES-2-clause-drawn : goal.returns-then-count-eq-MAX_HIGHLIGHT_LINES-2-clause-drawn
returns-then-count-eq-MAX_HIGHLIGHT_LINES-2-clause-drawn c =
    let at = c.loop-line.at in
    lines_full at.look.ui_testing at.width at.row at.line c.loop-line.count c.loop-line.rest.now c.loop-line.buffer _ c.if-count-eq-MAX_HIGHLIGHT_LINES-2.true c.loop-line.invariant.left

pub returns-then-count-eq-MAX_HIGHLIGHT_LINES-2-clause-row : goal.returns-then-count-eq-MAX_HIGHLIGHT_LINES-2-clause-row
returns-then-count-eq-MAX_HIGHLIGHT_LINES-2-clause-row c = row_full c.loop-line.at.row c.loop-line.count _ c.loop-line.rest.now c.if-count-eq-MAX_HIGHLIGHT_LINES-2.true c.loop-line.invariant.below

pub returns-then-count-eq-MAX_HIGHLIGHT_LINES-2-clause-cut : goal.returns-then-count-eq-MAX_HIGHLIGHT_LINES-2-clause-cut
returns-then-count-eq-MAX_HIGHLIGHT_LINES-2-clause-cut c = cut_full c.loop-line.count c.loop-line.rest.now (chars c.loop-line.rest.now) _ _ c.if-count-eq-MAX_HIGHLIGHT_LINES-2.true c.in_default.ensures c.loop-line.invariant.cut

pub returns-clause-drawn : goal.returns-clause-drawn
returns-clause-drawn c =
    let at = c.loop-line.at in
    let few = c.loop-line.invariant.few in
    let other = c.if-count-eq-MAX_HIGHLIGHT_LINES-2.false in
    lines_last at.look.ui_testing at.width at.row at.line c.loop-line.count c.loop-line.rest.now c.loop-line.buffer c.draw_source-2.new.buffer _ (omega (arith, few, other)) c.in_default.ensures c.in_ok-draw_source-2.ensures c.loop-line.invariant.left

pub returns-clause-row : goal.returns-clause-row
returns-clause-row c =
    let few = c.loop-line.invariant.few in
    let other = c.if-count-eq-MAX_HIGHLIGHT_LINES-2.false in
    row_last c.loop-line.at.row _ c.loop-line.count _ c.loop-line.rest.now (omega (arith, few, other)) c.in_default.ensures c.in_ok-sum.ensures c.loop-line.invariant.below

pub returns-clause-cut : goal.returns-clause-cut
returns-clause-cut c =
    let few = c.loop-line.invariant.few in
    let other = c.if-count-eq-MAX_HIGHLIGHT_LINES-2.false in
    cut_last c.loop-line.count c.loop-line.rest.now _ (omega (arith, few, other)) c.in_default.ensures c.loop-line.invariant.cut
