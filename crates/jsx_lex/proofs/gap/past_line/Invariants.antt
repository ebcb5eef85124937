use Rattle.std.proofs.Common.{length, false}
use Rattle.std.specs.Str.{chars}
use denote.Shadow.{shadow}
use denote.Text.{Utf8}
use Rattle.jsx_base.specs.Token.{InLineComment}
use Rattle.jsx_lex.specs.Gaps.{Leads}
use Rattle.jsx_lex.specs.Places.{EndsWith}
use Rattle.jsx_lex.proofs.gap.past_line.Given as goal

abbrev pub invariant-loop-c : goal.invariant-loop-c
invariant-loop-c l = record {
  leads : Leads InLineComment (chars l.text) InLineComment (chars l.rest) false;
  ends : EndsWith l.text l.rest;
  text : shadow (Utf8 l.rest);
}

abbrev pub decreases-loop-c : goal.decreases-loop-c
decreases-loop-c l = length l.rest
