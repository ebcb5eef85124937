use Rattle.std.proofs.Common.{◌∙◌}
use Rattle.jsx_emit.proofs.Width.{note_more}
use Rattle.jsx_emit.proofs.page.width.notes_line.Goals as goal

pub loop-note-preserved : goal.loop-note-preserved
loop-note-preserved g c =
    c.max-line.ensures
    ∙ note_more (g.M.SourceMapper.files c.args.cm.now) c.args.notes.now c.loop-note.note-index c.loop-note.line _ c.note-item.result c.loop-note-test.true c.note-item.is c.loop-note.invariant c.in_ok-greatest_line.ensures
