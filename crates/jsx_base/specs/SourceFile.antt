-- What clients see of a file.
use Rattle.std.specs.Prelude.{ℕ, ◌+◌, ◌≤◌, List, length, string_bytes}
use Rattle.std.specs.declared.alloc.Global.{Global}
use Rattle.std.specs.declared.rc.Rc.{Rc}
use Rattle.std.specs.Str.{chars}
use Rattle.jsx_base.specs.declared.source_file.SourceFile.{SourceFile}
use Rattle.jsx_base.specs.FileName.{Name, name_of}
use Rattle.jsx_base.specs.Files.{File}

abbrev pub file_of : SourceFile → File
file_of it = record { name = name_of it.name; text = chars (string_bytes it.src); start = it.start_pos.0 }

-- a file that is shared
abbrev pub shared_file : Rc SourceFile Global → File
shared_file it = file_of it.value

-- whether a text fits behind the files that there are
abbrev pub Fits : ℕ → List ℕ → Type 0
Fits next_pos src = next_pos + length src + 1 ≤ 0xFFFF0000

-- the file that is made of a text
abbrev pub file_from : Name → List ℕ → ℕ → File
file_from name src start = record { name = name; text = chars src; start = start }
