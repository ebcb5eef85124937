use Rattle.std.proofs.Common.{◌≡◌, map, string_bytes, take}
use Rattle.std.specs.Str.{chars}
use Rattle.jsx_base.specs.Comments.{is_marked}
use Rattle.jsx_pen.specs.Pen.{joint, portion_of}
use Rattle.jsx_print.proofs.printed.marked.Given as goal

abbrev pub invariant-loop-stretch : goal.invariant-loop-stretch
invariant-loop-stretch g l = record { so : chars (string_bytes l.text) ≡ joint (is_marked (g.C.Comments.marked l.comments)) (map portion_of (take l.stretch-index l.stretches)) }
