use Rattle.std.proofs.Common.{◌≡◌, ◌+◌, ◌++◌, length}
use denote.Text.{Utf8}
use denote.Shadow.{shadow}
use Rattle.jsx_emit.proofs.Ways.{rows_in}
use Rattle.jsx_emit.proofs.page.suggestions.draw_further.Given as goal

abbrev pub invariant-loop-line : goal.invariant-loop-line
invariant-loop-line l = record {
  is_text : shadow (Utf8 l.rest);
  left : l.buffer ++ rows_in (l.width + 15) l.rest ≡ l.fn.buffer ++ rows_in (l.width + 15) l.more;
}

abbrev pub decreases-loop-line : goal.decreases-loop-line
decreases-loop-line l = length l.rest
