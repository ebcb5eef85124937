-- What ends the statements of a case.
use Rattle.std.specs.Prelude.{Bool, ◌||◌}
use Rattle.jsx_tree.specs.Grammar.{key, pun}
use Rattle.jsx_tree.specs.Reading.{Place, forth}
use Rattle.jsx_tree.specs.Walk.{is_found}

-- a token that ends the statements of a case
abbrev pub ends_case : Place → Bool
ends_case x = is_found (forth (pun "}") x) || (is_found (forth (key "case") x) || is_found (forth (key "default") x))
