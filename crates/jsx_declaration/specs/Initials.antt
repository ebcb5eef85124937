-- Whether a variable has an initializer where it wants one.
use Rattle.std.specs.Prelude.{◌||◌, Bool, not, true}
use Rattle.jsx_tree.specs.Kinds.{DeclareWord, ConstWord, Declarator, statement, Tree, node, none, part}
use Rattle.jsx_tree.specs.StaticRules.{is_here}
use Rattle.jsx_operand.specs.Patterns.{is_compound}

-- whether what a variable binds wants an initializer: a pattern in brackets does, and all that `const` binds
abbrev pub wants_value : DeclareWord → Tree → Bool
wants_value ConstWord q = true
wants_value w q = is_compound q

-- whether a variable has an initializer where it wants one
abbrev pub has_value : DeclareWord → Tree → Bool
has_value w (node (statement Declarator) (part q (part i none))) = is_here i || not (wants_value w q)
has_value w t = true
