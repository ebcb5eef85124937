use Rattle.std.proofs.Common.{◌≡◌, length}
use Rattle.std.specs.Str.{chars}
use denote.Shadow.{shadow}
use denote.Text.{Utf8}
use Rattle.jsx_lex.specs.Comments.{from_line_end}
use Rattle.jsx_lex.specs.Places.{EndsWith}
use Rattle.jsx_lex.proofs.comment.line_end.Given as goal

abbrev pub invariant-loop-c : goal.invariant-loop-c
invariant-loop-c l = record {
  same : from_line_end (chars l.rest) ≡ from_line_end (chars l.text);
  ends : EndsWith l.text l.rest;
  text : shadow (Utf8 l.rest);
}

abbrev pub decreases-loop-c : goal.decreases-loop-c
decreases-loop-c l = length l.rest
