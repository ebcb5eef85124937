use Rattle.std.proofs.Common.{None, sym, ◌∙◌}
use Rattle.std.specs.Prelude.{string_bytes}
use Rattle.std.specs.Option.{option_map}
use Rattle.jsx_diag.specs.Data.{report_of}
use Rattle.jsx_emit.proofs.Ends.{own_cut}
use Rattle.jsx_emit.proofs.page.long.own_text.Goals as goal

pub returns-then-is_failure_note-clause-own : goal.returns-then-is_failure_note-clause-own
returns-then-is_failure_note-clause-own g c =
    own_cut
    (record { map = None; short = c.args.look.short; ui_testing = c.args.look.ui_testing; skip_filename = c.args.look.skip_filename })
    (option_map (λ cm. record { files = g.M.SourceMapper.files cm.now; call_span = g.M.SourceMapper.call_span cm.now; offset_line = g.M.SourceMapper.offset_line cm.now }) c.args.cm)
    c.args.width (report_of c.args.report.now) (string_bytes c.in_ok-text.text) c.without_end.result
    (sym c.is_failure_note.ensures ∙ c.if-is_failure_note.true)
    (rw c.as_slice.ensures.value at c.in_ok-text.ensures.part)
    (rw c.as_str.ensures.value at c.without_end.ensures.cut)
