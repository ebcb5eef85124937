-- Where a semicolon may be missing.
use Rattle.std.specs.Prelude.{[], codes, Bool, false, true, not, ◌&&◌, ◌||◌}
use Rattle.jsx_base.specs.Token.{Text, same}
use Rattle.jsx_tree.specs.Signs.{Ending, AfterExpr, AfterBlock, AfterBinding}
use Rattle.jsx_tree.specs.Reading.{Place, At, continues, is_do}

-- between the token q and one that is neither a semicolon nor the end, with a line end between them or not
abbrev pub lacks : Ending → Text → Text → Bool → Bool
lacks e q raw b = is_do e || (same raw (codes "}") || (b && not (continues e q raw)))

-- behind what stands in a list with commas: a comma goes on with it
abbrev pub in_list : Place → Bool
in_list (At q AfterExpr text) = not (same q [])
in_list (At q AfterBinding text) = true
in_list (At q AfterBlock text) = not (same q [])
in_list x = false
