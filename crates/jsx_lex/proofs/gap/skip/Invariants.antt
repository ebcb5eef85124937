use Rattle.std.proofs.Common.{length}
use Rattle.std.specs.Str.{chars}
use denote.Shadow.{shadow}
use denote.Text.{Utf8}
use Rattle.jsx_base.specs.Token.{Blank}
use Rattle.jsx_lex.specs.Gaps.{Leads}
use Rattle.jsx_lex.specs.Places.{EndsWith}
use Rattle.jsx_lex.proofs.gap.skip.Given as goal

abbrev pub invariant-loop-c : goal.invariant-loop-c
invariant-loop-c l = record {
  leads : Leads Blank (chars l.text) Blank (chars l.rest) l.has_new_line;
  ends : EndsWith l.text l.rest;
  text : shadow (Utf8 l.rest);
}

abbrev pub decreases-loop-c : goal.decreases-loop-c
decreases-loop-c l = length l.rest
