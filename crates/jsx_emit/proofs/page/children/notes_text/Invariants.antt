use Rattle.std.proofs.Common.{None, map, take}
use Rattle.std.specs.Prelude.{string_bytes}
use Rattle.std.specs.Option.{option_map}
use Rattle.jsx_diag.specs.Data.{child_of}
use Rattle.jsx_emit.specs.Parts.{NoteOver}
use Rattle.jsx_emit.specs.Shows.{Each}
use Rattle.jsx_emit.proofs.page.children.notes_text.Given as goal

abbrev pub invariant-loop-note : goal.invariant-loop-note
invariant-loop-note g l = record {
  each : Each (NoteOver (record { map = None; short = l.look.short; ui_testing = l.look.ui_testing; skip_filename = l.look.skip_filename }) (option_map (λ cm. record { files = g.M.SourceMapper.files cm.now; call_span = g.M.SourceMapper.call_span cm.now; offset_line = g.M.SourceMapper.offset_line cm.now }) l.cm) l.width) (take l.note-index (map child_of l.notes)) (string_bytes l.text);
}
