-- What a node stands in, as the parser keeps it.
use Rattle.std.specs.Prelude.{List, [], ◌∷◌, Bool, true, false, ◌&&◌}
use Rattle.std.specs.Str.{chars}
use Rattle.jsx_tree.specs.Kinds.{Forest, list, none, part}
use Rattle.jsx_tree.specs.Grammar.{InCode}
use Rattle.jsx_tree.specs.StaticRules.{Jump, jump, Surroundings, enter, outside}
use Rattle.jsx_operand.specs.declared.around.Labels.{Labels}
use Rattle.jsx_operand.specs.declared.around.Labels.TheVariants.{None, Inside'}
use Rattle.jsx_operand.specs.declared.around.Around.{Around}
use Rattle.jsx_operand.specs.SoFar.{in_module}

abbrev pub labels_of : Labels → List Jump
labels_of None = []
labels_of (Inside' name on_loop p outer) = jump (chars name.now) on_loop ∷ labels_of outer

abbrev pub around_of : Around → Surroundings
around_of a =
    record { module' = a.is_module; strict = a.is_strict; returns = a.returns; target' = a.has_target; super' = a.has_super; super_call = a.calls_super; derived = a.is_derived; loop = a.in_loop; breakable = a.breakable; labels = labels_of a.labels.now }

-- what the statements of a module stand in, with these labels
abbrev pub within_module : List Jump → Surroundings
within_module ls = record in_module { labels = ls }

-- and those of a script, before its directives
abbrev pub within_script : List Jump → Surroundings
within_script ls = record outside { labels = ls }

-- what stands behind these directives, of a script or of a body
abbrev pub in_code : Forest → Surroundings → Surroundings
in_code ds v = enter (part (list ds) none) InCode v

-- what the code of a method stands in, that may be the constructor of its class
abbrev pub in_method : Bool → Surroundings → Surroundings
in_method b v = record v { returns = true; target' = true; super' = true; super_call = v.derived && b; loop = false; breakable = false; labels = [] }

-- what the members of a class stand in, one with `extends` or without
abbrev pub in_members : Bool → Surroundings → Surroundings
in_members b v = record v { strict = true; derived = b }

-- and the value of a field
abbrev pub in_field : Surroundings → Surroundings
in_field v = record v { returns = false; target' = true; super' = true; super_call = false; loop = false; breakable = false; labels = [] }
