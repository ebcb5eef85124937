use Rattle.std.proofs.Common.{◌≡◌, ◌+◌, ◌-◌, false, length, drop, map}
use Rattle.std.specs.Str.{chars}
use denote.Shadow.{shadow}
use denote.Text.{Utf8}
use Rattle.jsx_base.specs.Token.{Blank, is_cut, skip}
use Rattle.jsx_base.specs.Comments.{comment_data}
use Rattle.jsx_lex.specs.Parts.{More}
use Rattle.jsx_lex.specs.Places.{EndsWith}
use Rattle.jsx_lex.proofs.comment.comments.Given as goal

abbrev pub invariant-loop-part : goal.invariant-loop-part
invariant-loop-part l = record {
  behind : skip (chars l.rest) ≡ chars (drop l.to l.text);
  cut : is_cut Blank (chars l.rest) ≡ false;
  ends : EndsWith l.text l.rest;
  more : More (l.start.0 + (length l.text - length l.rest)) l.rest (map comment_data l.found.items) (l.start.0 + l.from) (drop l.from l.text) (drop l.to l.text);
  text : shadow (Utf8 l.rest);
}

abbrev pub decreases-loop-part : goal.decreases-loop-part
decreases-loop-part l = length l.rest
