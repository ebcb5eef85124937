use Rattle.std.proofs.Common.{rules, ◌<◌, length, get_or, map}
use Rattle.jsx_diag.specs.Data.{child_of}
use Rattle.jsx_emit.specs.Texts.{called_note, note_moves}
use Rattle.jsx_emit.proofs.Moves.{changed_next, child_called, found_next, untouched, within_olds}
use Rattle.jsx_emit.proofs.page.prepared.move_notes.Goals as goal

pub loop-note-preserved : goal.loop-note-preserved
loop-note-preserved g c =
    let call = g.M.SourceMapper.call_span c.args.cm.now in
    let notes = c.loop-note.notes in
    let olds = map child_of c.args.notes.now in
    let i = c.loop-note.note-index in
    let note = get_or notes i c.note-item.result in
    let within : i < length notes = search rules in
    let kept = untouched child_of (called_note call) olds notes i c.note-item.result within c.loop-note.invariant.changed in
    record {
      found = found_next (note_moves call) olds i (child_of note) c.loop-note.moved c.in_ok-moved.field-0 _ (within_olds child_of (called_note call) olds notes i within c.loop-note.invariant.changed) kept c.in_ok-moved.ensures.moved c.loop-note.invariant.found;
      changed = changed_next child_of (called_note call) olds notes i _ c.note-item.result within c.loop-note.invariant.changed (child_called call note c.move_spans.new.spans c.in_ok-moved.ensures.spans);
    }
