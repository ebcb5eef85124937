-- Patterns that were read.
use Rattle.std.specs.Prelude.{Bool, true, false}
use Rattle.jsx_tree.specs.Kinds.{ArrayPat, ObjectPat, RestPat, WithInit, function, Tree, node}

-- more than a name: a pattern in brackets, one with a default, or a rest
abbrev pub is_compound : Tree → Bool
is_compound (node (function (ArrayPat r)) ts) = true
is_compound (node (function (ObjectPat r)) ts) = true
is_compound (node (function (WithInit r)) ts) = true
is_compound (node (function (RestPat r)) ts) = true
is_compound t = false

-- a rest
abbrev pub is_rest : Tree → Bool
is_rest (node (function (RestPat r)) ts) = true
is_rest t = false
