use Rattle.std.proofs.Common.{◌∙◌}
use Rattle.std.specs.Prelude.{string_bytes}
use Rattle.jsx_base.specs.Locs.{loc_data}
use Rattle.jsx_emit.specs.Page.{place_line}
use Rattle.jsx_emit.proofs.LineRows.{text_row_if}
use Rattle.jsx_emit.proofs.page.part.push_place_line.Goals as goal

pub returns-clause-added : goal.returns-clause-added
returns-clause-added g c = text_row_if (place_line (record { ui_testing = c.args.look.ui_testing; skip_filename = c.args.look.skip_filename; offset_line = g.M.SourceMapper.offset_line c.args.cm.now }) c.args.width (loc_data c.args.place.now)) c.as_str.result.now (string_bytes c.args.text.now) (string_bytes c.push_row.new.text) c.push_row.result (c.as_str.ensures.value ∙ c.in_ok-line.ensures) c.push_row.ensures
