use Rattle.std.proofs.Common.{◌≡◌, ◌+◌, ◌<◌, length, false}
use denote.Text.{Utf8}
use denote.Shadow.{shadow}
use Rattle.std.specs.Str.{chars}
use Rattle.jsx_emit.specs.Layout.{words_from}
use Rattle.jsx_emit.proofs.page.labels.is_brief.Given as goal

abbrev pub invariant-loop-c : goal.invariant-loop-c
invariant-loop-c l = record {
  is_text : shadow (Utf8 l.rest);
  few : l.words < 10;
  counted : l.words + words_from l.inside (chars l.rest) ≡ words_from false (chars l.fn.text);
}

abbrev pub decreases-loop-c : goal.decreases-loop-c
decreases-loop-c l = length l.rest
