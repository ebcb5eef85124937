use Rattle.std.proofs.Common.{◌≡◌, ◌≤◌, ◌-◌, ◌+◌, length, take, nat_lt}
use Rattle.std.specs.Str.{chars}
use denote.Text.{Utf8}
use denote.Shadow.{shadow}
use Rattle.jsx_base.specs.Lines.{lines}
use Rattle.jsx_emit.specs.Written.{end_row, is_cut, sources_drawn}
use Rattle.jsx_emit.proofs.Ways.{lines_left}
use Rattle.jsx_emit.proofs.page.ways.draw_lines.Given as goal

abbrev pub invariant-loop-line : goal.invariant-loop-line
invariant-loop-line l = record {
  is_text : shadow (Utf8 l.rest);
  few : l.count ≤ 6;
  left : sources_drawn l.at.look.ui_testing l.at.width l.at.row l.at.line (lines_left l.count l.rest) l.buffer ≡ sources_drawn l.fn.first.look.ui_testing l.fn.first.width l.fn.first.row l.fn.first.line (take 6 (lines (chars l.source))) l.fn.buffer;
  below : l.at.row + length (lines_left l.count l.rest) ≡ end_row l.fn.first.row (chars l.source);
  cut : nat_lt (6 - l.count) (length (lines (chars l.rest))) ≡ is_cut (chars l.source);
}

abbrev pub decreases-loop-line : goal.decreases-loop-line
decreases-loop-line l = length l.rest
