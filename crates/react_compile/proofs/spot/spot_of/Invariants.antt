use Rattle.std.proofs.Common.{◌≡◌, ◌+◌, ◌≤◌, length}
use denote.Text.{Utf8}
use denote.Shadow.{shadow}
use Rattle.std.specs.Str.{chars}
use Rattle.jsx_base.specs.Lines.{front}
use Rattle.react_compile.specs.Spots.{behind}
use Rattle.react_compile.proofs.spot.spot_of.Given as goal

abbrev pub invariant-loop-c : goal.invariant-loop-c
invariant-loop-c l = record {
  text : shadow (Utf8 l.rest);
  so : behind (1, 1) (front (chars l.fn.text) l.fn.at) ≡ behind l.spot (front (chars l.rest) l.left);
  low : 1 ≤ l.spot.1;
  few : l.spot.0 + l.spot.1 + length l.rest ≤ length l.fn.text + 2;
}

abbrev pub decreases-loop-c : goal.decreases-loop-c
decreases-loop-c l = length l.rest
