-- As what a name stands at a place in the code, as it is in the definitions.
use Rattle.std.specs.Prelude.{Bool, cond}
use Rattle.jsx_tree.specs.Kinds.{Role, Assigns, Binds}
use Rattle.jsx_tree.specs.declared.program.Specifier.{Specifier}
use Rattle.jsx_tree.specs.declared.program.Specifier.TheVariants as specifier
use Rattle.jsx_tree.specs.declared.text.Text.{Text}
use Rattle.jsx_names.specs.Code.{sort_of}
use Rattle.jsx_names.specs.Events as events
use Rattle.jsx_heard.specs.declared.mode.Way.{Way}
use Rattle.jsx_heard.specs.declared.mode.Way.TheVariants as way
use Rattle.jsx_heard.specs.declared.mode.Mode.{Mode}
use Rattle.jsx_heard.specs.declared.mode.Mode.TheVariants.{Plain, Enclosed, Binding}

abbrev pub way_of : Way → events.Way
way_of way.Simply = events.Simply
way_of way.Exported = events.Exported'
way_of way.InHead = events.InHead

abbrev pub mode_of : Mode → events.Mode
mode_of Plain = events.Plain
mode_of Enclosed = events.Plain
mode_of (Binding w s) = events.Binding (way_of w) (sort_of s)

-- whether a pattern's names are assigned to
abbrev pub role_of : Mode → Role
role_of Plain = Assigns
role_of m = Binds

-- the name of a specifier that stands last
abbrev pub last_name : Specifier → Text
last_name (specifier.Same at a) = a
last_name (specifier.As at a b) = b

-- of a statement, behind `export` or not
abbrev pub exporting : Bool → events.Mode
exporting b = cond b events.Exporting events.Plain
