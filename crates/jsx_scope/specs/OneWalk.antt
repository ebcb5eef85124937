-- Where parentheses are put, in one walk: the place of a part decides whether it gets a pair, before its own parts are walked.
use Rattle.std.specs.Prelude.{List, [], ◌∷◌, Bool, true, false, ◌&&◌, ◌||◌}
use Rattle.jsx_base.specs.Token.{Text}
use Rattle.jsx_tree.specs.Kinds.{Tree, leaf, node, list, Forest, none, part}
use Rattle.jsx_tree.specs.Nonterminals.{Nonterminal}
use Rattle.jsx_tree.specs.Form.{Position, position, positions}
use Rattle.jsx_tree.specs.Normal.{remade, remades}
use Rattle.jsx_tree.specs.Parentheses.{parens_of, wants, dresses, special, is_in, is_init}

-- a node whose parts have the pairs that the productions ask
abbrev pub dressed : Tree → Tree
dressed (leaf s t) = leaf s t
dressed (node k cs) = node k (dresses (positions k) cs)
dressed (list ts) = list ts

-- whether a tree gets a pair at a place: the production asks one, or an `in` would stand open in the head of a `for`
abbrev pub due : Nonterminal → List Text → Bool → Tree → Bool
due c g bare t = wants c g (dressed t) || (bare && is_in t)

abbrev pub paired : Bool → Tree → Tree
paired true t = parens_of t
paired false t = t

-- whether an `in` stands open below a tree that got a pair or not
abbrev pub below : Bool → Bool → Bool
below true bare = false
below false bare = bare

-- whether an `in` stands open at a part: an Init of a `for` begins there, or one goes on that no brackets enclose
abbrev pub opened : Bool → Bool → Bool → Bool
opened true b bare = true
opened false true bare = false
opened false false bare = bare

abbrev mutual
  pub walk : Nonterminal → List Text → Bool → Tree → Tree
  walk c g bare (leaf s t) = paired (due c g bare (leaf s t)) (leaf s t)
  walk c g bare (node k cs) = paired (due c g bare (node k cs)) (special k (walks (below (due c g bare (node k cs)) bare) (positions k) cs))
  walk c g bare (list ts) = list (walk_each c bare ts)

  pub walks : Bool → List Position → Forest → Forest
  walks bare ss none = none
  walks bare [] (part t ts) = part (remade special t) (remades special ts)
  walks bare (position f c g b a ∷ ss) (part t ts) = part (walk c g (opened (is_init c) b bare) t) (walks bare ss ts)

  pub walk_each : Nonterminal → Bool → Forest → Forest
  walk_each c bare none = none
  walk_each c bare (part t ts) = part (walk c [] bare t) (walk_each c bare ts)

-- the parts of a tree walked, and no pair put round it
abbrev pub inner : Bool → Tree → Tree
inner bare (leaf s t) = leaf s t
inner bare (node k cs) = special k (walks bare (positions k) cs)
inner bare (list ts) = list ts
