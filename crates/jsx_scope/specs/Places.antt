-- The code's places of expressions, for each nonterminal and what may not come first there.
use Rattle.std.specs.Prelude.{ℕ, List, codes, Bool, true, false}
use Rattle.jsx_base.specs.Token.{Text, among}
use Rattle.jsx_tree.specs.Nonterminals.{Nonterminal, Expr, MemberObject, DotObject, NullishLeft, NewCallee, Argument, ArrayItem}
use Rattle.jsx_scope.specs.declared.place.Place.{Place}
use Rattle.jsx_scope.specs.declared.place.Place.TheVariants as place

-- by whether a brace may not come first, and whether the words `function` and `class` may not
abbrev pub guarded : ℕ → Bool → Bool → Place
guarded n true true = place.Statement
guarded n true false = place.ArrowBody
guarded n false true = place.Default
guarded n false false = place.Level n

abbrev pub place_at : Nonterminal → List Text → Place
place_at (Expr n) g = guarded n (among (codes "{") g) (among (codes "function") g)
place_at MemberObject g = place.Level 18
place_at DotObject g = place.DotObject
place_at NullishLeft g = place.NullishLeft
place_at NewCallee g = place.NewCallee
place_at Argument g = place.Level 1
place_at ArrayItem g = place.Level 1
place_at c g = place.Level 0
