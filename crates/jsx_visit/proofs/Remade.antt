-- A visit where no JSX node holds expressions: each node is made anew by the visitor's rule.
use Rattle.std.proofs.Common.{◌≡◌, Bool, true, false, cond, refl, sym, ap, ◌∙◌}
use Rattle.std.proofs.lemmas.Bool.{and_parts, and_from}
use Rattle.std.specs.Prelude.{◌&&◌}
use Rattle.jsx_tree.specs.Kinds.{Kind, program, statement, function, expression, jsx, Tree, leaf, node, list, Forest, none, part}
use Rattle.jsx_tree.specs.Normal.{remade, remades}
use Rattle.jsx_tree.specs.Sound.{each_node, each_nodes}
use Rattle.jsx_visit.specs.Visit.{is_handed, renewed, visited, visiteds}

-- tokens, and lists of them
abbrev mutual
  pub is_plain : Tree → Bool
  is_plain (leaf s x) = true
  is_plain (node k cs) = false
  is_plain (list ts) = are_plain ts

  pub are_plain : Forest → Bool
  are_plain none = true
  are_plain (part t ts) = is_plain t && are_plain ts

-- a node that isn't JSX, or one of tokens alone
abbrev pub is_bare : Kind → Forest → Bool
is_bare (jsx k) cs = are_plain cs
is_bare k cs = true

-- a rule that leaves what no visitor is handed
pub record Keeps (f : Kind → Forest → Tree) : Type 0 where
  pub keeps : (k : Kind) (cs : Forest) → is_handed k ≡ false → f k cs ≡ node k cs

mutual
  plain_same : (f : Kind → Forest → Tree) (t : Tree) → is_plain t ≡ true → remade f t ≡ t
  plain_same f (leaf s x) h = refl
  plain_same f (node k cs) h = cc
  plain_same f (list ts) h = ap list (plain_all f ts h)

  plain_all : (f : Kind → Forest → Tree) (ts : Forest) → are_plain ts ≡ true → remades f ts ≡ ts
  plain_all f none h = refl
  plain_all f (part t ts) h = let p = and_parts (is_plain t) (are_plain ts) h in ap (λ u. part u (remades f ts)) (plain_same f t p.0) ∙ ap (part t) (plain_all f ts p.1)

anew : (f : Kind → Forest → Tree) → Keeps f → (k : Kind) (us : Forest) → renewed f k us ≡ f k us
anew f h k us = go (is_handed k) refl
  where
    go : (b : Bool) → is_handed k ≡ b → cond b (f k us) (node k us) ≡ f k us
    go true e = refl
    go false e = sym (h.keeps k us e)

mutual
  pub visited_remade : (f : Kind → Forest → Tree) → Keeps f → (t : Tree) → each_node is_bare t ≡ true → visited f t ≡ remade f t
  visited_remade f h (leaf s x) b = refl
  visited_remade f h (list ts) b = ap list (visiteds_remade f h ts b)
  visited_remade f h (node (program k) cs) b = anew f h (program k) (visiteds f cs) ∙ ap (f (program k)) (visiteds_remade f h cs b)
  visited_remade f h (node (statement k) cs) b = anew f h (statement k) (visiteds f cs) ∙ ap (f (statement k)) (visiteds_remade f h cs b)
  visited_remade f h (node (function k) cs) b = anew f h (function k) (visiteds f cs) ∙ ap (f (function k)) (visiteds_remade f h cs b)
  visited_remade f h (node (expression k) cs) b = anew f h (expression k) (visiteds f cs) ∙ ap (f (expression k)) (visiteds_remade f h cs b)
  visited_remade f h (node (jsx k) cs) b = ap (f (jsx k)) (sym (plain_all f cs (and_parts (are_plain cs) (each_nodes is_bare cs) b).0))

  visiteds_remade : (f : Kind → Forest → Tree) → Keeps f → (ts : Forest) → each_nodes is_bare ts ≡ true → visiteds f ts ≡ remades f ts
  visiteds_remade f h none b = refl
  visiteds_remade f h (part t ts) b =
      let p = and_parts (each_node is_bare t) (each_nodes is_bare ts) b in
      ap (λ u. part u (visiteds f ts)) (visited_remade f h t p.0) ∙ ap (part (remade f t)) (visiteds_remade f h ts p.1)

-- what each node passes, if it passes another test
mutual
  pub each_weaker : (p q : Kind → Forest → Bool) → ((k : Kind) (cs : Forest) → p k cs ≡ true → q k cs ≡ true) → (t : Tree) → each_node p t ≡ true → each_node q t ≡ true
  each_weaker p q w (leaf s x) h = refl
  each_weaker p q w (list ts) h = all_weaker p q w ts h
  each_weaker p q w (node k cs) h = let r = and_parts (p k cs) (each_nodes p cs) h in and_from _ _ (w k cs r.0) (all_weaker p q w cs r.1)

  all_weaker : (p q : Kind → Forest → Bool) → ((k : Kind) (cs : Forest) → p k cs ≡ true → q k cs ≡ true) → (ts : Forest) → each_nodes p ts ≡ true → each_nodes q ts ≡ true
  all_weaker p q w none h = refl
  all_weaker p q w (part t ts) h = let r = and_parts (each_node p t) (each_nodes p ts) h in and_from _ _ (each_weaker p q w t r.0) (all_weaker p q w ts r.1)
