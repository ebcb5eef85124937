use Rattle.std.proofs.Common.{ap, map}
use Rattle.std.specs.Prelude.{string_bytes}
use Rattle.jsx_emit.specs.Views.{sheet_of}
use Rattle.jsx_draw.specs.Views.{shown_file}
use Rattle.jsx_emit.proofs.Blocks.{files_if}
use Rattle.jsx_emit.proofs.page.part.push_files.Goals as goal

pub returns : goal.returns
returns g c = files_if (record { ui_testing = c.args.sheet.look.ui_testing; skip_filename = c.args.sheet.look.skip_filename; offset_line = g.M.SourceMapper.offset_line c.args.cm.now }) (sheet_of c.args.sheet) (shown_file c.in-Some.first.now) (map shown_file c.in-Some.others.now) (map shown_file c.args.files.now) (string_bytes c.args.text.now) (string_bytes c.push_bar_row.new.text) (string_bytes c.push_lines.new.text) (string_bytes c.push_others.new.text) c.push_others.result (ap (map shown_file) c.in-Some.ensures) c.in_ok-push_bar_row.ensures (rw c.deref.ensures.value at c.in_ok-push_lines.ensures) c.push_others.ensures
