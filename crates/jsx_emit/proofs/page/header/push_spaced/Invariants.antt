use Rattle.std.proofs.Common.{◌≡◌, ◌++◌, length}
use Rattle.std.specs.Prelude.{string_bytes}
use denote.Text.{Utf8}
use denote.Shadow.{shadow}
use Rattle.jsx_emit.specs.Page.{spaced}
use Rattle.jsx_emit.proofs.page.header.push_spaced.Given as goal

abbrev pub invariant-loop-front : goal.invariant-loop-front
invariant-loop-front l = record {
  is_text : shadow (Utf8 l.rest);
  added : string_bytes l.text ++ spaced l.rest ≡ string_bytes l.fn.text ++ spaced l.fn.more;
}

abbrev pub decreases-loop-front : goal.decreases-loop-front
decreases-loop-front l = length l.rest
