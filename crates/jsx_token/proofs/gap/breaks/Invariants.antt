use Rattle.std.proofs.Common.{◌≡◌, length}
use Rattle.std.specs.Str.{chars}
use denote.Shadow.{shadow}
use denote.Text.{Utf8}
use Rattle.jsx_base.specs.Token.{breaks, breaks_in}
use Rattle.jsx_token.specs.Gaps.{gap_of}
use Rattle.jsx_token.proofs.gap.breaks.Given as goal

abbrev pub invariant-loop-c : goal.invariant-loop-c
invariant-loop-c l = record {
  breaks_are : breaks_in (gap_of l.gap) (chars l.rest) ≡ breaks (chars l.text);
  text : shadow (Utf8 l.rest);
}

abbrev pub decreases-loop-c : goal.decreases-loop-c
decreases-loop-c l = length l.rest
