-- Places in files.
use Rattle.std.proofs.Common.{◌≡◌, refl}
use Rattle.jsx_base.specs.declared.file_name.FileName.{FileName}
use Rattle.jsx_base.specs.declared.file_name.FileName.TheVariants.{Real, Internal, Custom, Anon}
use Rattle.jsx_base.specs.FileName.{name_of, shown_name}
use Rattle.jsx_base.specs.SpanPlaces.{shown}

pub name_shown : (name : FileName) → shown_name name ≡ shown (name_of name)
name_shown (Real text) = refl
name_shown (Internal text) = refl
name_shown (Custom text) = refl
name_shown Anon = refl
