use Rattle.std.proofs.Common.{◌≡◌, map, take, string_bytes}
use Rattle.std.specs.List.{flat_map}
use Rattle.jsx_diag.specs.Data.{part_text, part_of}
use Rattle.jsx_diag.proofs.message.DiagnosticStyledString.content.Given as goal

abbrev pub invariant-loop-part : goal.invariant-loop-part
invariant-loop-part l = string_bytes l.text ≡ flat_map part_text (map part_of (take l.part-index l.part-items))
