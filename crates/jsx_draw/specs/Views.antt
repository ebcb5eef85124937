-- What is seen of the values that are drawn.
use Rattle.std.specs.Prelude.{string_bytes}
use Rattle.std.specs.Option.{option_map}
use Rattle.jsx_base.specs.Files.{File, Place}
use Rattle.jsx_base.specs.SourceFile.{shared_file}
use Rattle.jsx_draw.specs.declared.draw.Columns.{Columns}
use Rattle.jsx_draw.specs.declared.draw.Layer.{Layer}
use Rattle.jsx_draw.specs.declared.draw.Layer.TheVariants.{Edges, Downs, Sides, Labels, Underlines}
use Rattle.jsx_draw.specs.declared.files.ShownFile.{ShownFile}
use Rattle.jsx_draw.specs.declared.layout.ByStart.{ByStart}
use Rattle.jsx_draw.specs.declared.layout.Placed.{Placed}
use Rattle.jsx_draw.specs.declared.marks.At.{At}
use Rattle.jsx_draw.specs.declared.spots.Point.{Point}
use Rattle.jsx_draw.specs.declared.spots.Spot.{Spot}
use Rattle.jsx_draw.specs.declared.wides.Wide.{Wide}
use Rattle.jsx_draw.specs.Spots as Spots
use Rattle.jsx_draw.specs.Annotation.{Mark, mark_of}
use Rattle.jsx_draw.specs.Drawn as Drawn
use Rattle.jsx_draw.specs.Drawn.{PlacedMark}

abbrev pub seen_mark : ByStart → Mark
seen_mark it = mark_of it.0.now

abbrev pub placed_of : Placed → PlacedMark
placed_of it = record { mark = mark_of it.mark.now; row = it.row }

abbrev pub columns_of : Columns → Drawn.Columns
columns_of it = record { bars = it.bars; code = it.code }

abbrev pub layer_data : Layer → Drawn.Layer
layer_data Edges = Drawn.Edges
layer_data Downs = Drawn.Downs
layer_data (Sides rows) = Drawn.Sides rows
layer_data Labels = Drawn.Labels
layer_data Underlines = Drawn.Underlines

abbrev pub point_in : File → Point → Place
point_in file it = record { file = file; line = it.line; col = it.col; col_display = it.col_display }

abbrev pub spot_of : Spot → Spots.Spot
spot_of it = record { file = shared_file it.file.now; reach = record { first = point_in (shared_file it.file.now) it.first; last = point_in (shared_file it.file.now) it.last }; is_primary = it.label.now.is_primary; label = option_map string_bytes it.label.now.label }

abbrev pub wide_of : Wide → Drawn.Wide
wide_of it = record { spot = spot_of it.spot; depth = it.depth }

abbrev pub shown_file : ShownFile → Spots.ShownFile
shown_file it = record { file = shared_file it.file.now; lines = it.lines.items }

abbrev pub shown_line : At → Spots.ShownLine
shown_line it = record { file = shared_file it.file.now; line = it.line }
