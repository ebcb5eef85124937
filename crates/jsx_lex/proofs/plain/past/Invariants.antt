use Rattle.std.proofs.Common.{length}
use Rattle.std.specs.Str.{chars}
use denote.Shadow.{shadow}
use denote.Text.{Utf8}
use Rattle.jsx_lex.specs.Plain.{plain_state}
use Rattle.jsx_lex.specs.Places.{EndsWith}
use Rattle.jsx_lex.specs.Taken.{Keeps}
use Rattle.jsx_lex.proofs.plain.past.Given as goal

abbrev pub invariant-loop-c : goal.invariant-loop-c
invariant-loop-c l = record {
  keeps : Keeps (plain_state l.plain) (chars l.text) (chars l.rest);
  ends : EndsWith l.text l.rest;
  text : shadow (Utf8 l.rest);
}

abbrev pub decreases-loop-c : goal.decreases-loop-c
decreases-loop-c l = length l.rest
