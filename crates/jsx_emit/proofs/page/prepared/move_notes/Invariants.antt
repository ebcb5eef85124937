use Rattle.std.proofs.Common.{◌≡◌, ◌||◌, ◌++◌, drop, map, take}
use Rattle.std.specs.List.{list_any}
use Rattle.jsx_diag.specs.Data.{child_of}
use Rattle.jsx_emit.specs.Texts.{called_note, note_moves}
use Rattle.jsx_emit.proofs.page.prepared.move_notes.Given as goal

abbrev pub invariant-loop-note : goal.invariant-loop-note
invariant-loop-note g l = record {
  found : (l.moved || list_any (note_moves (g.M.SourceMapper.call_span l.cm)) (drop l.note-index (map child_of l.fn.notes))) ≡ list_any (note_moves (g.M.SourceMapper.call_span l.cm)) (map child_of l.fn.notes);
  changed : map child_of l.notes ≡ take l.note-index (map (called_note (g.M.SourceMapper.call_span l.cm)) (map child_of l.fn.notes)) ++ drop l.note-index (map child_of l.fn.notes);
}
