use Rattle.std.proofs.Common.{◌≡◌, ◌+◌, ◌++◌, length, drop}
use denote.Text.{Utf8}
use denote.Shadow.{shadow}
use Rattle.std.specs.Str.{chars}
use Rattle.jsx_base.specs.Lines.{lines}
use Rattle.jsx_base.specs.LineStarts.{starts}
use Rattle.jsx_base.proofs.source_file.line_starts.Given as goal

abbrev pub invariant-loop-line : goal.invariant-loop-line
invariant-loop-line l = record {
  text : shadow (Utf8 l.rest);
  bytes : l.start + length l.rest ≡ length l.fn.text;
  items : starts 0 (lines (chars l.fn.text)) ≡ l.line_starts.items ++ drop 1 (starts l.start (lines (chars l.rest)));
}

abbrev pub decreases-loop-line : goal.decreases-loop-line
decreases-loop-line l = length l.rest
