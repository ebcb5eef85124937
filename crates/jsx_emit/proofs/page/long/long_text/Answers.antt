use Rattle.std.proofs.Common.{None, ap, cond, length, ◌∙◌}
use Rattle.std.specs.Prelude.{decimal, string_bytes}
use Rattle.std.specs.Option.{option_map}
use Rattle.jsx_diag.specs.Data.{report_of}
use Rattle.jsx_diag.specs.Level.{is_failure_level}
use Rattle.jsx_emit.specs.Texts.{last_line_over}
use Rattle.jsx_emit.proofs.Long.{joined, long_over, same_files}
use Rattle.jsx_emit.proofs.page.long.long_text.Goals as goal

pub returns : goal.returns
unfolding lib.Utf8.encode
returns g c =
    let r = report_of c.args.report.now in
    let w = c.in_ok-width.width in
    let own = string_bytes c.in_ok-text.text in
    let notes = string_bytes c.in_ok-notes.notes in
    let suggestions = string_bytes c.in_ok-suggestions.suggestions in
    long_over
    (record { map = None; short = c.args.look.short; ui_testing = c.args.look.ui_testing; skip_filename = c.args.look.skip_filename })
    (option_map (λ cm. record { files = g.M.SourceMapper.files cm.now; call_span = g.M.SourceMapper.call_span cm.now; offset_line = g.M.SourceMapper.offset_line cm.now }) c.args.cm)
    r w own notes suggestions (string_bytes c.push.new.self)
    (c.in_ok-width.ensures ∙ ap (λ o. cond c.args.look.ui_testing 2 (length (decimal (last_line_over o r.span r.children)))) (same_files (λ cm. record { files = g.M.SourceMapper.files cm.now; call_span = g.M.SourceMapper.call_span cm.now; offset_line = g.M.SourceMapper.offset_line cm.now }) c.args.cm))
    c.in_ok-text.ensures.own
    c.in_ok-text.ensures.headed
    (rw c.deref.ensures.value at c.in_ok-notes.ensures)
    (rw c.deref-2.ensures.value at c.in_ok-suggestions.ensures)
    (joined (is_failure_level r.level) w r.children own notes suggestions (string_bytes c.push_separator.new.text) (string_bytes c.push_str.new.self) (string_bytes c.push_str-2.new.self) (string_bytes c.push.new.self)
    (rw (c.deref-3.ensures.value, c.is_failure_note-cut.ensures) at c.in_ok-push_separator.ensures)
    (rw c.as_str.ensures.value at c.in_ok-push_str.ensures.bytes)
    (rw c.as_str-2.ensures.value at c.in_ok-push_str-2.ensures.bytes)
    c.in_ok-push.ensures.bytes)
