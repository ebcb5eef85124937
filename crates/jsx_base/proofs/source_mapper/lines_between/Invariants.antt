use Rattle.std.proofs.Common.{◌≡◌, ◌≤◌, ◌-◌, max, map}
use Rattle.std.specs.List.{range_with_len}
use Rattle.jsx_base.specs.Locs.{line_data}
use Rattle.jsx_base.specs.SourceFile.{file_of}
use Rattle.jsx_base.specs.SpanPlaces.{line_between}
use Rattle.jsx_base.proofs.source_mapper.lines_between.Given as goal

abbrev pub invariant-loop-index : goal.invariant-loop-index
invariant-loop-index l = record {
  are : map line_data l.lines.items ≡ map (line_between (file_of l.file) l.first l.last) (range_with_len l.begin (l.index - l.begin));
  most : l.index ≤ max l.begin l.last.0;
}
