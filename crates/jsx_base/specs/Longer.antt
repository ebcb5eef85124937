-- The longer texts of a table that begin with a text: what a punctuator goes on to.
use Rattle.std.specs.Prelude.{List, [], ◌∷◌, Bool, true, false, cond, ◌&&◌}
use Rattle.jsx_base.specs.Token.{Text, begins, is_longer, drop_as, is_one_of}

-- what stands behind `p` in the longer ones of a table that begin with it
abbrev pub extends : List Text → Text → List Text
extends [] p = []
extends (q ∷ qs) p = cond (begins p q && is_longer q p) (drop_as p q ∷ extends qs p) (extends qs p)

-- whether each of the texts begins with one of the characters
abbrev pub all_begin : List Text → Text → Bool
all_begin [] ds = true
all_begin ([] ∷ es) ds = false
all_begin ((d ∷ e) ∷ es) ds = is_one_of d ds && all_begin es ds
