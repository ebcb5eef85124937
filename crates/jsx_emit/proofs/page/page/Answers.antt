use Rattle.std.specs.Option.{option_map}
use Rattle.jsx_diag.specs.Data.{report_of}
use Rattle.jsx_emit.proofs.Whole.{each_long_if, each_short_if}
use Rattle.jsx_emit.proofs.page.page.Goals as goal

pub returns-then-look : goal.returns-then-look
returns-then-look g c =
    each_short_if (λ map. record { files = g.M.SourceMapper.files map.now; call_span = g.M.SourceMapper.call_span map.now; offset_line = g.M.SourceMapper.offset_line map.now }) c.args.map
    (record { map = option_map (λ map. record { files = g.M.SourceMapper.files map.now; call_span = g.M.SourceMapper.call_span map.now; offset_line = g.M.SourceMapper.offset_line map.now }) c.args.map; short = c.args.look.short; ui_testing = c.args.look.ui_testing; skip_filename = c.args.look.skip_filename })
    c.args.flags.now.external_macro_backtrace (report_of c.args.db.now) (report_of c.in_ok-report.report) c.short_text.result c.if-look.true c.in_ok-report.ensures c.short_text.ensures

pub returns : goal.returns
returns g c =
    each_long_if (λ map. record { files = g.M.SourceMapper.files map.now; call_span = g.M.SourceMapper.call_span map.now; offset_line = g.M.SourceMapper.offset_line map.now }) c.args.map
    (record { map = option_map (λ map. record { files = g.M.SourceMapper.files map.now; call_span = g.M.SourceMapper.call_span map.now; offset_line = g.M.SourceMapper.offset_line map.now }) c.args.map; short = c.args.look.short; ui_testing = c.args.look.ui_testing; skip_filename = c.args.look.skip_filename })
    c.args.flags.now.external_macro_backtrace (report_of c.args.db.now) (report_of c.in_ok-report.report) c.long_text.result c.if-look.false c.in_ok-report.ensures c.long_text.ensures
