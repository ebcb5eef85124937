-- What clients see of a place and of the lines of a span.
use Rattle.std.specs.Prelude.{map}
use Rattle.jsx_base.specs.declared.source_mapper.Loc.{Loc}
use Rattle.jsx_base.specs.declared.source_mapper.LineInfo.{LineInfo}
use Rattle.jsx_base.specs.declared.source_mapper.FileLines.{FileLines}
use Rattle.jsx_base.specs.SpanPlaces.{LineData, LinesData}
use Rattle.jsx_base.specs.Files.{Place}
use Rattle.jsx_base.specs.SourceFile.{shared_file}

abbrev pub loc_data : Loc → Place
loc_data it = record { file = shared_file it.file.now; line = it.line; col = it.col.0; col_display = it.col_display }

abbrev pub line_data : LineInfo → LineData
line_data it = record { index = it.line_index; start_col = it.start_col.0; end_col = it.end_col.0 }

abbrev pub lines_data : FileLines → LinesData
lines_data it = record { file = shared_file it.file; lines = map line_data it.lines.items }
