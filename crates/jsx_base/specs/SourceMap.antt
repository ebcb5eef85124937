-- What clients see of a source map.
use Rattle.std.specs.Prelude.{List, map}
use Rattle.jsx_base.specs.declared.source_map.SourceMap.{SourceMap}
use Rattle.jsx_base.specs.Files.{File}
use Rattle.jsx_base.specs.SourceFile.{shared_file}

-- its files, by rising places
abbrev pub files_of : SourceMap → List File
files_of it = map shared_file it.files.items
