use Rattle.std.specs.Prelude.{string_bytes}
use Rattle.jsx_diag.specs.Data.{child_of}
use Rattle.jsx_emit.proofs.Each.{each_next}
use Rattle.jsx_emit.proofs.page.children.notes_text.Goals as goal

pub loop-note-preserved : goal.loop-note-preserved
loop-note-preserved g c = record {
  each = each_next _ child_of c.args.notes.now c.loop-note.note-index c.note-item.result (string_bytes c.loop-note.text) (string_bytes c.in_ok-part.part) (string_bytes c.push_str.new.self) c.loop-note-test.true c.note-item.is c.loop-note.invariant.each c.in_ok-part.ensures (rw c.as_str.ensures.value at c.in_ok-push_str.ensures.bytes);
}
