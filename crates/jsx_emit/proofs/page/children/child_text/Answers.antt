use Rattle.std.proofs.Common.{None, sym, ◌∙◌}
use Rattle.std.specs.Prelude.{string_bytes}
use Rattle.std.specs.Option.{option_map}
use Rattle.jsx_diag.specs.Data.{child_of}
use Rattle.jsx_emit.proofs.Ends.{note_cut}
use Rattle.jsx_emit.proofs.page.children.child_text.Goals as goal

pub returns-then-is_failure_note : goal.returns-then-is_failure_note
returns-then-is_failure_note g c =
    note_cut
    (record { map = None; short = c.args.look.short; ui_testing = c.args.look.ui_testing; skip_filename = c.args.look.skip_filename })
    (option_map (λ map. record { files = g.M.SourceMapper.files map.now; call_span = g.M.SourceMapper.call_span map.now; offset_line = g.M.SourceMapper.offset_line map.now }) c.args.map)
    c.args.width (child_of c.args.note.now) (string_bytes c.in_ok-text.text) c.without_end.result
    (sym c.is_failure_note.ensures ∙ c.if-is_failure_note.true)
    c.in_ok-text.ensures
    (rw c.as_str.ensures.value at c.without_end.ensures.cut)
