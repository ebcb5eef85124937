use Rattle.std.proofs.Common.{◌≡◌, ◌+◌, ◌++◌, map, take}
use Rattle.std.specs.Prelude.{string_bytes}
use Rattle.jsx_diag.specs.Data.{piece_of}
use Rattle.jsx_emit.specs.Page.{message_text}
use Rattle.jsx_emit.specs.Texts.{hanging}
use Rattle.jsx_emit.proofs.page.notes.push_lines.Given as goal

abbrev pub invariant-loop-piece : goal.invariant-loop-piece
invariant-loop-piece l = string_bytes l.text ≡ string_bytes l.fn.text ++ hanging (l.width + 9) (message_text (take l.piece-index (map piece_of l.message)))
