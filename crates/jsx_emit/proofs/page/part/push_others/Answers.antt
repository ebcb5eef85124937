use Rattle.std.specs.Prelude.{string_bytes}
use Rattle.jsx_emit.specs.Sheets.{other_file}
use Rattle.jsx_emit.specs.Views.{sheet_of}
use Rattle.jsx_draw.specs.Views.{shown_file}
use Rattle.jsx_emit.proofs.Blocks.{rows_more, rows_whole}
use Rattle.jsx_emit.proofs.page.part.push_others.Goals as goal

pub loop-file-preserved : goal.loop-file-preserved
loop-file-preserved g c = record { so = rows_more (other_file (record { ui_testing = c.args.sheet.look.ui_testing; skip_filename = c.args.sheet.look.skip_filename; offset_line = g.M.SourceMapper.offset_line c.args.cm.now }) (sheet_of c.args.sheet)) shown_file c.args.files.now c.loop-file.file-index c.file-item.result (string_bytes c.args.text.now) (string_bytes c.loop-file.text) (string_bytes c.push_other_file.new.text) c.loop-file-test.true c.file-item.is c.loop-file.invariant.so c.in_ok-push_other_file.ensures }

pub returns : goal.returns
returns g c = rows_whole (other_file (record { ui_testing = c.args.sheet.look.ui_testing; skip_filename = c.args.sheet.look.skip_filename; offset_line = g.M.SourceMapper.offset_line c.args.cm.now }) (sheet_of c.args.sheet)) shown_file c.args.files.now c.loop-file.file-index (string_bytes c.args.text.now) (string_bytes c.loop-file.text) c.loop-file-test.false c.loop-file.invariant.so
