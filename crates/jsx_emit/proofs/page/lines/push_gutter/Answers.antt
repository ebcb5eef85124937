use Rattle.std.proofs.Common.{ap, max, sym, ◌∙◌}
use Rattle.std.specs.Prelude.{string_bytes}
use Rattle.std.specs.Str.{chars}
use Rattle.jsx_emit.proofs.LineRows.{gutter_empty_if, gutter_text_if, no_chars, some_chars}
use Rattle.jsx_emit.proofs.page.lines.push_gutter.Goals as goal

pub returns-then-is_empty : goal.returns-then-is_empty
returns-then-is_empty c = gutter_empty_if c.args.depth c.args.slash c.max.result c.args.bars.now (chars c.args.source.now) (string_bytes c.args.text.now) (string_bytes c.push_str.new.self) (string_bytes c.push_bars.new.text) c.push_bars.result (no_chars c.args.source.now (sym c.is_empty.ensures ∙ c.if-is_empty.true)) (c.max.ensures ∙ ap (λ n. max c.args.slash n) c.greatest.ensures) c.in_ok-push_str.ensures.bytes c.push_bars.ensures

pub returns : goal.returns
returns c = gutter_text_if c.args.depth c.args.slash c.args.bars.now (chars c.args.source.now) c.behind_bars.result.now (string_bytes c.args.text.now) (string_bytes c.push_str.new.self) (string_bytes c.push_bars-2.new.text) (string_bytes c.push_str-2.new.self) c.push_str-2.result (some_chars c.args.source.now c.utf8.source (sym c.is_empty.ensures ∙ c.if-is_empty.false)) c.behind_bars.ensures c.in_ok-push_str.ensures.bytes c.in_ok-push_bars.ensures c.push_str-2.ensures.bytes
