use Rattle.std.proofs.Common.{map}
use Rattle.std.specs.Prelude.{string_bytes}
use Rattle.jsx_diag.specs.Data.{piece_of}
use Rattle.jsx_emit.specs.Page.{message_text}
use Rattle.jsx_emit.proofs.Pages.{note_text_if}
use Rattle.jsx_emit.proofs.page.notes.push_note.Goals as goal

pub returns : goal.returns
unfolding lib.Utf8.encode
returns c = note_text_if c.args.width c.args.level (message_text (map piece_of c.args.message.now)) (string_bytes c.args.text.now) (string_bytes c.push_word.new.text) (string_bytes c.push_lines.new.text) (string_bytes c.push.new.self) c.push.result c.in_ok-push_word.ensures c.in_ok-push_lines.ensures c.push.ensures.bytes
