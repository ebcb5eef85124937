-- What each name of a tree refers to, in order, by the scopes of the definitions.
use Rattle.std.specs.Prelude.{ℕ, suc, List, [], ◌∷◌, ◌++◌, Bool, true, false, cond, nat_eq, ◌&&◌, Option, Some, None}
use Rattle.jsx_tree.specs.Kinds.{Script, program, Kind, Tree, leaf, node, list, Forest, none, part}
use Rattle.jsx_tree.specs.Nonterminals.{Nonterminal, WholeProgram}
use Rattle.jsx_tree.specs.Form.{Position, position, positions}
use Rattle.jsx_tree.specs.Scopes.{Path, below, Scope, Binding, inside, is_name_at}
use Rattle.jsx_names.specs.Answers.{Answer, answer}

abbrev mutual
  pub referred : List Scope → Kind → Nonterminal → Path → Tree → List Answer
  referred ss q c p (leaf s t) = cond (is_name_at q c s t) (answer ss t p ∷ []) []
  referred ss q c p (node k cs) = referred_parts ss q k p cs 0 (positions k) cs
  referred ss q c p (list ts) = referred_each ss q c p 0 ts

  pub referred_parts : List Scope → Kind → Kind → Path → Forest → ℕ → List Position → Forest → List Answer
  referred_parts ss q k p all n [] ts = []
  referred_parts ss q k p all n (s ∷ qs) none = []
  referred_parts ss q k p all n (position f c g b a ∷ qs) (part t ts) = referred (inside q k p all c ss) k c (below p n) t ++ referred_parts ss q k p all (suc n) qs ts

  pub referred_each : List Scope → Kind → Nonterminal → Path → ℕ → Forest → List Answer
  referred_each ss q c p n none = []
  referred_each ss q c p n (part t ts) = referred ss q c (below p n) t ++ referred_each ss q c p (suc n) ts

-- all names of a program
abbrev pub all_referred : Tree → List Answer
all_referred t = referred [] (program Script) WholeProgram [] t

abbrev pub same_path : Path → Path → Bool
same_path [] [] = true
same_path [] (j ∷ js) = false
same_path (i ∷ is) [] = false
same_path (i ∷ is) (j ∷ js) = nat_eq i j && same_path is js

-- the answer at a place
abbrev pub answer_at : Path → List Answer → Option Binding
answer_at p [] = None
answer_at p (a ∷ as') = cond (same_path a.at p) (Some a.binding) (answer_at p as')
