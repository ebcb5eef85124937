use Rattle.std.specs.Prelude.{string_bytes}
use Rattle.std.specs.Option.{option_map}
use Rattle.jsx_diag.specs.Data.{report_of}
use Rattle.jsx_emit.proofs.Short.{short_if}
use Rattle.jsx_emit.proofs.page.short.push_short.Goals as goal

pub returns : goal.returns
unfolding lib.Utf8.encode
returns g c =
    short_if (option_map (λ map. record { files = g.M.SourceMapper.files map.now; call_span = g.M.SourceMapper.call_span map.now; offset_line = g.M.SourceMapper.offset_line map.now }) c.args.map) (report_of c.args.report.now)
    (string_bytes c.args.text.now) (string_bytes c.push_before.new.text) (string_bytes c.push_header.new.text) (string_bytes c.push.new.self) c.push.result c.in_ok-push_before.ensures (rw c.deref.ensures.value at c.in_ok-push_header.ensures) c.push.ensures.bytes
