use Rattle.std.specs.Prelude.{string_bytes}
use Rattle.jsx_emit.proofs.Rows.{two_texts_if}
use Rattle.jsx_emit.proofs.page.suggestions.push_row.Goals as goal

pub returns : goal.returns
unfolding lib.Utf8.encode
returns c = two_texts_if c.args.before.now c.args.line.now (string_bytes c.args.text.now) (string_bytes c.push_spaced.new.text) (string_bytes c.push_spaced-2.new.text) (string_bytes c.push.new.self) c.push.result c.utf8.before c.utf8.line c.in_ok-push_spaced.ensures c.in_ok-push_spaced-2.ensures c.push.ensures.bytes
