-- What stands behind `return`.
use Rattle.std.specs.Prelude.{[], ◌∷◌}
use Rattle.jsx_tree.specs.Signs.{AfterWord, Ends, SameLine, Space}
use Rattle.jsx_tree.specs.Nonterminals.{Expr}
use Rattle.jsx_tree.specs.Grammar.{Fixed, Optional, Production, semi}

-- the row of `return`, behind its word
abbrev pub returned_symbols : Production
returned_symbols = Fixed (Ends AfterWord) ∷ Optional (SameLine ∷ Space ∷ []) (Expr 0) [] [] ∷ semi ∷ []
