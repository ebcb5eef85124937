-- What is seen of the values that a page is drawn from.
use Rattle.std.specs.Prelude.{map}
use Rattle.jsx_draw.specs.Views.{spot_of, wide_of}
use Rattle.jsx_emit.specs.declared.page.lines.Sheet.{Sheet}
use Rattle.jsx_emit.specs.Sheets as Sheets

abbrev pub sheet_of : Sheet → Sheets.Sheet
sheet_of it = record { ui_testing = it.look.ui_testing; width = it.width; depth = it.depth; singles = map spot_of it.singles.now; wides = map wide_of it.wides.now }
