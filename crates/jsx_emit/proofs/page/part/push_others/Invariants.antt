use Rattle.std.proofs.Common.{◌≡◌, ◌++◌, map, take}
use Rattle.std.specs.Prelude.{string_bytes}
use Rattle.std.specs.List.{flat_map}
use Rattle.jsx_emit.specs.Sheets.{other_file}
use Rattle.jsx_emit.specs.Page.{rows_text}
use Rattle.jsx_emit.specs.Views.{sheet_of}
use Rattle.jsx_draw.specs.Views.{shown_file}
use Rattle.jsx_emit.proofs.page.part.push_others.Given as goal

abbrev pub invariant-loop-file : goal.invariant-loop-file
invariant-loop-file g l = record { so : string_bytes l.text ≡ string_bytes l.fn.text ++ rows_text (flat_map (other_file (record { ui_testing = l.sheet.look.ui_testing; skip_filename = l.sheet.look.skip_filename; offset_line = g.M.SourceMapper.offset_line l.cm }) (sheet_of l.sheet)) (take l.file-index (map shown_file l.files))) }
