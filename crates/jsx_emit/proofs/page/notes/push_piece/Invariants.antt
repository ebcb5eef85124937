use Rattle.std.proofs.Common.{◌≡◌, ◌+◌, ◌++◌, length}
use Rattle.std.specs.Prelude.{string_bytes}
use denote.Text.{Utf8}
use denote.Shadow.{shadow}
use Rattle.jsx_emit.specs.Texts.{hanging}
use Rattle.jsx_emit.proofs.page.notes.push_piece.Given as goal

abbrev pub invariant-loop-line : goal.invariant-loop-line
invariant-loop-line l = record {
  is_text : shadow (Utf8 l.rest);
  added : string_bytes l.text ++ hanging (l.width + 9) l.rest ≡ string_bytes l.fn.text ++ hanging (l.width + 9) l.fn.more;
}

abbrev pub decreases-loop-line : goal.decreases-loop-line
decreases-loop-line l = length l.rest
