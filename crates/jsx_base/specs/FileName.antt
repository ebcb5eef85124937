-- What a text is called.
use Rattle.std.specs.Prelude.{ℕ, List, ◌++◌, codes, string_bytes}
use Rattle.jsx_base.specs.declared.file_name.FileName.{FileName}
use Rattle.jsx_base.specs.declared.file_name.FileName.TheVariants.{Real, Internal, Custom, Anon}

-- a name, with the bytes of its text
pub data Name : Type 0 where
  RealName : List ℕ → Name
  InternalName : List ℕ → Name
  CustomName : List ℕ → Name
  AnonName : Name

abbrev pub name_of : FileName → Name
name_of (Real text) = RealName (string_bytes text)
name_of (Internal text) = InternalName (string_bytes text)
name_of (Custom text) = CustomName (string_bytes text)
name_of Anon = AnonName

-- what is printed
abbrev pub shown_name : FileName → List ℕ
shown_name (Real text) = string_bytes text
shown_name (Internal text) = codes "<" ++ string_bytes text ++ codes ">"
shown_name (Custom text) = codes "<" ++ string_bytes text ++ codes ">"
shown_name Anon = codes "<anon>"
