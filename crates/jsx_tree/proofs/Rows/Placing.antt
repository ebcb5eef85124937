-- A node that a function of the parser reads, as what may stand at a nonterminal.
use Rattle.std.proofs.Common.{◌≡◌, ◌≤◌, ℕ, Bool, true, false, List, [], ◌∷◌, refl, sym, ◌∙◌, ap, subst, arith}
use Rattle.std.specs.Prelude.{◌&&◌}
use Rattle.jsx_base.specs.Token.{Text, TokenKind}
use Rattle.jsx_tree.specs.Kinds.{Role, ShorthandInit, function, Kind, Tree, Forest, leaf, node, list, none}
use Rattle.jsx_tree.specs.Nonterminals.{Nonterminal}
use Rattle.jsx_tree.specs.Grammar.{Context, InFunction, InArrow, InField, InClassCode, InLoop, InSwitch, InModuleCode, InMethod, InMembers, InLabel, InCode, Part, Symbol, production}
use Rattle.jsx_tree.specs.Form.{admits, fits_below}
use Rattle.jsx_tree.specs.Reading.{Place}
use Rattle.jsx_tree.specs.StaticRules.{Surroundings, enter}
use Rattle.jsx_tree.proofs.Tokens.{and_left, and_right}
use Rattle.jsx_tree.specs.Walk.{Piece, piece, with, one, Given, Relation, Walk, done, next, Past, tree, around, steady}
use Rattle.jsx_tree.specs.Language.{Language, Whole}
use Rattle.jsx_tree.specs.Answers.{Only, Barred, NoRow, NoNode, Built}
use Rattle.jsx_tree.specs.Faults.{Fault, Unread, Deep, outer, outer_if, Shallow, part_depth, deepest, given_depth}
use Rattle.jsx_tree.proofs.Depth.Shallow.{shallow_parts, shallow_up}
use Rattle.jsx_tree.specs.Reach.{ones}
use Rattle.jsx_tree.proofs.Depth.Nodes.{counts_as, depth_told, nested_up, parts_up}
use Rattle.jsx_tree.proofs.Rows.Laws.{Lawful}
use Rattle.jsx_tree.proofs.Rows.Guarded.{guarded, whole_walk, loosen}

-- ---- contexts that don't hang on the parts of the node

abbrev pub is_free : Context → Bool
is_free (InMethod h) = false
is_free InMembers = false
is_free InLabel = false
is_free InCode = false
is_free a = true

abbrev pub are_free : List Context → Bool
are_free [] = true
are_free (a ∷ as') = is_free a && are_free as'

abbrev pub free : List Piece → Bool
free [] = true
free (piece a p ∷ ps) = are_free a && free ps

free_enter : (a : Context) (ts : Forest) (v : Surroundings) → is_free a ≡ true → enter ts a v ≡ enter none a v
free_enter InFunction ts v e = refl
free_enter InArrow ts v e = refl
free_enter InField ts v e = refl
free_enter InClassCode ts v e = refl
free_enter InLoop ts v e = refl
free_enter InSwitch ts v e = refl
free_enter InModuleCode ts v e = refl
free_enter (InMethod h) ts v e = cc
free_enter InMembers ts v e = cc
free_enter InLabel ts v e = cc
free_enter InCode ts v e = cc

pub free_around : (a : List Context) (ts : Forest) (v : Surroundings) → are_free a ≡ true → around v ts a ≡ steady v a
free_around [] ts v e = refl
free_around (a ∷ as') ts v e = ap (enter ts a) (free_around as' ts v (and_right (is_free a) _ e)) ∙ free_enter a ts (steady v as') (and_left (is_free a) _ e)

pub moved : {R : Relation} {V W : List Context → Surroundings} {ps : List Piece} {x y : Place} {ts : Forest} → ((a : List Context) → are_free a ≡ true → V a ≡ W a) → free ps ≡ true → Walk R V ps x ts y → Walk R W ps x ts y
moved e f (done g) = done g
moved {R} e f (next {a = a} {p = p} {ps = ps} {x = x} {y = y} {g = g} q w) = next (subst (λ v. Past R v p x g y) (e a (and_left (are_free a) (free ps) f)) q) (moved e (and_right (are_free a) (free ps) f) w)

-- ---- at a nonterminal

-- what may stand at `c` from the place on is a node of this kind
pub record Chosen (L : Language) (v : Surroundings) (c : Nonterminal) (k : Kind) (x : Place) : Type 0 where
  pub no_leaf : (s : TokenKind) (t : Text) (y : Place) → Whole L v false c x (leaf s t) y → ⊥
  pub kind : (l : Kind) (ts : Forest) (y : Place) → Whole L v false c x (node l ts) y → l ≡ k

record Node (L : Language) (v : Surroundings) (c : Nonterminal) (k : Kind) (x : Place) (u : Tree) (z : Place) : Type 0 where
  parts : Forest
  is : u ≡ node k parts
  formed : fits_below c (node k parts) ≡ true
  walk : Walk (Whole L) (steady v) (L.rows k) x parts z
  keeps : L.keeps k v parts ≡ true

one_node : {L : Language} {v : Surroundings} {c : Nonterminal} {k : Kind} {x : Place} → Lawful L → Chosen L v c k x → guarded c (L.rows k) ≡ true → free (L.rows k) ≡ true → (u : Tree) (z : Place) → Whole L v false c x u z → Node L v c k x u z
one_node law ch g f (leaf s t) z w = absurd (ch.no_leaf s t z w)
one_node {L} {v} {c} {k} {x} law ch g f (node l us) z w =
    let e = ch.kind l us z w in
    let w' : Whole L v false c x (node k us) z = subst (λ m. Whole L v false c x (node m us) z) e w in
    let p = law.from_node k w'.reads in
    record {
      parts = us;
      is = ap (λ m. node m us) e;
      formed = and_right (admits c (node k us)) (fits_below c (node k us)) (law.is_read w'.reads).is;
      walk = moved (λ a h. free_around a us v h) f (whole_walk law c (L.rows k) g w'.ends_there p.walk);
      keeps = p.keeps;
    }
one_node {c = c} law ch g f (list ts) z w = let bad = and_left (admits c (list ts)) (fits_below c (list ts)) (law.is_read w.reads).is in cc

-- a row that is read in one way alone up to where what is at home there ends; in none
pub record OnlyAt (L : Language) (v : Surroundings) (c : Nonterminal) (ps : List Piece) (x : Place) (ts : Forest) (y : Place) : Type 0 where
  pub walk : Walk (Whole L) (steady v) ps x ts y
  pub alone : (us : Forest) (z : Place) → Walk (Whole L) (steady v) ps x us z → L.ends c z ≡ true → (ts ≡ us) × (y ≡ z)

pub record NoneAt (L : Language) (v : Surroundings) (c : Nonterminal) (ps : List Piece) (k : Kind) (x : Place) (e : Fault) : Type 0 where
  pub no : (ts : Forest) (y : Place) → Walk (Whole L) (steady v) ps x ts y → L.keeps k v ts ≡ true → L.ends c y ≡ true → Shallow e (deepest ts) → ⊥

pub then_at : {L : Language} {v : Surroundings} {c : Nonterminal} {a : List Context} {p : Symbol} {ps : List Piece} {x y z : Place} {g : Given} {ts : Forest} → Only L (steady v a) p x g y → OnlyAt L v c ps y ts z → OnlyAt L v c (piece a p ∷ ps) x (with g ts) z
then_at {L} {v} {c} {a} {p} {ps} {x} {y} {z} {g} {ts} o r = record { walk = next o.past r.walk; alone = at }
  where
    at : (us : Forest) (w : Place) → Walk (Whole L) (steady v) (piece a p ∷ ps) x us w → L.ends c w ≡ true → (with g ts ≡ us) × (z ≡ w)
    at us w (next {z = z'} {ts = us'} q w') e =
        let same = o.alone _ _ q in
        let rest = r.alone us' z' (subst (λ y. Walk (Whole L) (steady v) ps y us' z') (sym same.1) w') e in
        (λ i. with (same.0 i) (rest.0 i), rest.1)

pub only_at : {L : Language} {v : Surroundings} {c : Nonterminal} {k : Kind} {x y : Place} {ts : Forest} → Lawful L → Chosen L v c k x → guarded c (L.rows k) ≡ true → free (L.rows k) ≡ true → admits c (node k ts) ≡ true → OnlyAt L v c (L.rows k) x ts y → L.keeps k v ts ≡ true → L.ends c y ≡ true → Only L v (Part c) x (one (node k ts)) y
only_at {L} {v} {c} {k} {x} {y} {ts} law ch g f a o r st = record {
  past = tree (record { reads = law.to_node k a (record { walk = moved (λ a h. sym (free_around a ts v h)) f (loosen o.walk); keeps = r }); ends_there = st });
  alone = at;
}
  where
    at : (h : Given) (z : Place) → Past (Whole L) v (Part c) x h z → (one (node k ts) ≡ h) × (y ≡ z)
    at h z (tree {t = u} w) =
        let n = one_node law ch g f u z w in
        let same = o.alone n.parts z n.walk w.ends_there in
        (ap one (ap (node k) same.0 ∙ sym n.is), same.1)

-- the parts of a node that was read are less deep than it where it counts (b)
pub node_shallow : {L : Language} {v : Surroundings} {c : Nonterminal} {k : Kind} {x y : Place} {ts : Forest} (e : Fault) (b : Bool) → counts_as b k ≡ true → Lawful L → L.reads v false c x (node k ts) y → Shallow (outer_if b e) (part_depth (node k ts)) → Shallow e (deepest ts)
node_shallow {c = c} {k} {ts = ts} e b i law r s = shallow_parts e b (part_depth (node k ts)) (ones (production k)) (deepest ts) (depth_told b c k ts i (and_right (admits c (node k ts)) (fits_below c (node k ts)) (law.is_read r).is)) s

-- of any kind no less than with as many levels; of `{ a = b }` with two fewer
pub flat_shallow : {L : Language} {v : Surroundings} {c : Nonterminal} {k : Kind} {x y : Place} {ts : Forest} (e : Fault) → Lawful L → L.reads v false c x (node k ts) y → Shallow e (part_depth (node k ts)) → Shallow e (deepest ts)
flat_shallow {c = c} {k} {ts = ts} e law r s = shallow_up e (deepest ts) (part_depth (node k ts)) (parts_up c k ts (and_right (admits c (node k ts)) (fits_below c (node k ts)) (law.is_read r).is)) s

pub nested_shallow : {L : Language} {v : Surroundings} {c : Nonterminal} {r : Role} {x y : Place} {ts : Forest} (e : Fault) → Lawful L → L.reads v false c x (node (function (ShorthandInit r)) ts) y → Shallow (outer (outer e)) (part_depth (node (function (ShorthandInit r)) ts)) → Shallow e (deepest ts)
nested_shallow Unread law q s = tt
nested_shallow {c = c} {r = r} {ts = ts} (Deep n) law q s = let h = nested_up r ts (and_right (admits c (node (function (ShorthandInit r)) ts)) (fits_below c (node (function (ShorthandInit r)) ts)) (law.is_read q).is) in omega (arith, h, s)

-- b: whether the kind counts; the fault is then that of its parts, one level deeper
pub barred_at : {L : Language} {v : Surroundings} {c : Nonterminal} {k : Kind} {x : Place} {e : Fault} (b : Bool) → counts_as b k ≡ true → Lawful L → Chosen L v c k x → guarded c (L.rows k) ≡ true → free (L.rows k) ≡ true → NoneAt L v c (L.rows k) k x e → Barred L v (Part c) x (outer_if b e)
barred_at {L} {v} {c} {k} {x} {e} b i law ch g f n = record { no = at }
  where
    at : (h : Given) (z : Place) → Past (Whole L) v (Part c) x h z → Shallow (outer_if b e) (given_depth h) → ⊥
    at h z (tree {t = u} w) s =
        let o = one_node law ch g f u z w in
        n.no o.parts z o.walk o.keeps w.ends_there (shallow_parts e b (part_depth u) (ones (production k)) (deepest o.parts) (ap part_depth o.is ∙ depth_told b c k o.parts i o.formed) s)

-- of any kind, at the same levels
pub barred_flat : {L : Language} {v : Surroundings} {c : Nonterminal} {k : Kind} {x : Place} {e : Fault} → Lawful L → Chosen L v c k x → guarded c (L.rows k) ≡ true → free (L.rows k) ≡ true → NoneAt L v c (L.rows k) k x e → Barred L v (Part c) x e
barred_flat {L} {v} {c} {k} {x} {e} law ch g f n = record { no = at }
  where
    at : (h : Given) (z : Place) → Past (Whole L) v (Part c) x h z → Shallow e (given_depth h) → ⊥
    at h z (tree {t = u} w) s =
        let o = one_node law ch g f u z w in
        n.no o.parts z o.walk o.keeps w.ends_there (shallow_up e (deepest o.parts) (part_depth u) (subst (λ t. deepest o.parts ≤ part_depth t) (sym o.is) (parts_up c k o.parts o.formed)) s)

-- where the row is so wherever it ends
pub only_node : {L : Language} {v : Surroundings} {c : Nonterminal} {k : Kind} {x y : Place} {t : Tree} → Lawful L → Chosen L v c k x → guarded c (L.rows k) ≡ true → free (L.rows k) ≡ true → ((ts : Forest) → admits c (node k ts) ≡ true) → (b : Built L v (L.rows k) k (λ ts. ts) t x y) → L.keeps k v b.parts ≡ true → L.ends c y ≡ true
    → Only L v (Part c) x (one t) y
only_node {L} {v} {c} {k} {x} {y} {t} law ch g f a b r st = subst (λ u. Only L v (Part c) x (one u) y) (sym b.is) (only_at law ch g f (a b.parts) (record { walk = b.row.walk; alone = λ us z w e. b.row.alone us z w }) r st)

pub barred_node : {L : Language} {v : Surroundings} {c : Nonterminal} {k : Kind} {x : Place} {e : Fault} (b : Bool) → counts_as b k ≡ true → Lawful L → Chosen L v c k x → guarded c (L.rows k) ≡ true → free (L.rows k) ≡ true → NoNode L v (L.rows k) k x e → Barred L v (Part c) x (outer_if b e)
barred_node b i law ch g f n = barred_at b i law ch g f (record { no = λ ts y w h e s. n.no ts y w h s })

pub no_node : {L : Language} {v : Surroundings} {ps : List Piece} {k : Kind} {x : Place} {e : Fault} → NoRow L v ps x e → NoNode L v ps k x e
no_node n = record { no = λ ts y w h s. n.no ts y w s }
