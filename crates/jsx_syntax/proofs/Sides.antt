-- The lists of the three sides: what is written in each is read with any names, and then it is asked which may stand there.
use Rattle.std.proofs.Common.{◌≡◌, max, Bool, List, [], ◌∷◌, ◌++◌, true, false, map, refl, sym, ◌∙◌, ap, subst}
use Rattle.std.specs.Prelude.{IsTrue, ◌&&◌}
use Rattle.jsx_base.specs.Token.{Text, TokenKind, IdentifierName}
use Rattle.jsx_tree.specs.declared.program.Specifier.{Specifier as Written}
use Rattle.jsx_tree.specs.declared.program.Specifier.TheVariants as specifier
use Rattle.jsx_tree.specs.Kinds.{Kind, Side, Imported, Exported, From, Specifier, SpecifierAs, program, Tree, leaf, node, list, Forest, none, part}
use Rattle.jsx_tree.specs.Nonterminals.{Nonterminal, Name, Ident, BindingIdent, Specifiers, word_in}
use Rattle.jsx_tree.specs.Grammar.{Commas, inner, only, outer, pun}
use Rattle.jsx_tree.specs.Form.{admits, is_leaf}
use Rattle.jsx_tree.specs.Reading.{Place, forth}
use Rattle.jsx_tree.specs.StaticRules.{Surroundings, all_of, has_plain_params}
use Rattle.jsx_tree.specs.View.{forest}
use Rattle.jsx_tree.specs.ViewProgram.{view_specifier}
use Rattle.jsx_tree.specs.Walk.{is_found, one, Piece, Items, nil, last, more, sign, tree, many, Walk, done, next, around, steady}
use Rattle.jsx_tree.specs.Language.{Whole}
use Rattle.jsx_tree.specs.Answers.{OnlyRow, NoRow}
use Rattle.jsx_tree.specs.Faults.{Fault, Shallow, deepest, part_depth}
use Rattle.jsx_tree.proofs.Depth.Shallow.{shallow_alone, shallow_head, shallow_tail}
use Rattle.jsx_tree.proofs.Tokens.{and_both, and_left, and_right}
use Rattle.jsx_tree.proofs.Apart.{clash}
use Rattle.jsx_tree.proofs.Rows.Stopping.{is_never, never_stops}
use Rattle.jsx_tree.proofs.Rows.Firsts.{kind_home}
use Rattle.jsx_tree.proofs.Rows.Steps.{end}
use Rattle.jsx_tree.proofs.Rows.Turns.{early, no_rest}
use Rattle.jsx_token.specs.Stage.{leaf_at}
use Rattle.jsx_token.specs.Marks.{row_so_far}
use Rattle.jsx_operand.specs.SoFar.{Staged, so_far}
use Rattle.jsx_operand.proofs.OfSoFar.{of_so_far}
use Rattle.jsx_operand.proofs.Standing.{standing}
use Rattle.jsx_operand.proofs.Homes.{IsName, bindings, idents, names, taken_by, home_of, no_list}
use Rattle.jsx_operand.proofs.Values.{leaf_to}
use Rattle.jsx_syntax.specs.Specifiers.{fits, specifier_row, written}

-- ---- a specifier of one list as one of another

abbrev pub as_side : Side → Tree → Tree
as_side s (node (program (Specifier From)) ts) = node (program (Specifier s)) ts
as_side s (node (program (SpecifierAs From)) ts) = node (program (SpecifierAs s)) ts
as_side s t = t

abbrev as_written : Tree → Tree
as_written (node (program (Specifier s)) ts) = node (program (Specifier From)) ts
as_written (node (program (SpecifierAs s)) ts) = node (program (SpecifierAs From)) ts
as_written t = t

abbrev pub each : (Tree → Tree) → Forest → Forest
each f none = none
each f (part t ts) = part (f t) (each f ts)

-- ---- names at the places of a side

-- where names stand alone: any, those that may be referred to, those that may be bound
data IsNaming : Nonterminal → Type 0 where
  any : IsNaming Name
  referring : IsNaming Ident
  binding : IsNaming BindingIdent

only_naming : (s : Side) → IsNaming (only s)
only_naming Imported = binding
only_naming Exported = referring
only_naming From = any

outer_naming : (s : Side) → IsNaming (outer s)
outer_naming Imported = any
outer_naming Exported = referring
outer_naming From = any

inner_naming : (s : Side) → IsNaming (inner s)
inner_naming Imported = binding
inner_naming Exported = any
inner_naming From = any

taken_there : {c : Nonterminal} → IsNaming c → (t : Text) → leaf_at c IdentifierName t ≡ true
taken_there any t = refl
taken_there referring t = refl
taken_there binding t = refl

record Named (v : Surroundings) (c : Nonterminal) (x : Place) (u : Tree) (y : Place) : Type 0 where
  text : Text
  is : u ≡ leaf IdentifierName text
  fits' : word_in c text ≡ true
  reads : Staged v false Name x (leaf IdentifierName text) y

named_leaf : {v : Surroundings} {c : Nonterminal} {x y : Place} (t : Text) → Staged v false c x (leaf IdentifierName t) y → Named v c x (leaf IdentifierName t) y
named_leaf {c = c} t r = record { text = t; is = refl; fits' = and_left (word_in c t) (is_leaf IdentifierName t) r.reads.is; reads = leaf_to Name IsName refl refl r }

named : {v : Surroundings} {c : Nonterminal} {x y : Place} → IsNaming c → (u : Tree) → Staged v false c x u y → Named v c x u y
named n (leaf IdentifierName t) r = named_leaf t r
named any (leaf _ t) r = let bad = r.staged in cc
named referring (leaf _ t) r = let bad = r.staged in cc
named binding (leaf _ t) r = let bad = r.staged in cc
named any (node k ts) r = absurd (names.node k ts (taken_by r) (home_of r))
named referring (node k ts) r = absurd (idents.node k ts (taken_by r) (home_of r))
named binding (node k ts) r = absurd (bindings.node k ts (taken_by r) (home_of r))
named n (list ts) r = absurd (no_list r)

place_named : {v : Surroundings} {c : Nonterminal} {x y : Place} {t : Text} → IsNaming c → word_in c t ≡ true → Staged v false Name x (leaf IdentifierName t) y → Staged v false c x (leaf IdentifierName t) y
place_named {c = c} {t = t} n h r = leaf_to c IsName h (taken_there n t) r

-- ---- which kinds stand there

data AtSide (s : Side) : Tree → Type 0 where
  single : {ts : Forest} → AtSide s (node (program (Specifier s)) ts)
  renamed : {ts : Forest} → AtSide s (node (program (SpecifierAs s)) ts)

abbrev same_side : Side → Side → Bool
same_side Imported Imported = true
same_side Exported Exported = true
same_side From From = true
same_side s r = false

side_is : (s r : Side) → same_side s r ≡ true → s ≡ r
side_is Imported Imported h = refl
side_is Exported Exported h = refl
side_is From From h = refl
side_is Imported _ h = cc
side_is Exported _ h = cc
side_is From _ h = cc

abbrev is_at : Side → Kind → Bool
is_at s (program (Specifier r)) = same_side s r
is_at s (program (SpecifierAs r)) = same_side s r
is_at s k = false

kind_at : (s : Side) (k : Kind) (ts : Forest) → is_at s k ≡ true → AtSide s (node k ts)
kind_at s (program (Specifier r)) ts h = subst (λ q. AtSide s (node (program (Specifier q)) ts)) (side_is s r h) single
kind_at s (program (SpecifierAs r)) ts h = subst (λ q. AtSide s (node (program (SpecifierAs q)) ts)) (side_is s r h) renamed
kind_at s (program _) ts h = cc
kind_at s _ ts h = cc

-- what is so of each list
record Lists (s : Side) : Type 0 where
  leafless : (k : TokenKind) (t : Text) → leaf_at (Specifiers s) k t ≡ true → ⊥
  kind : {v : Surroundings} {x y : Place} (k : Kind) (ts : Forest) → Staged v false (Specifiers s) x (node k ts) y → is_at s k ≡ true
  never : is_never (Specifiers s) ≡ true
  restless : no_rest (Specifiers s) ≡ true
  home : (ts : Forest) → admits (Specifiers s) (node (program (Specifier s)) ts) ≡ true
  home_as : (ts : Forest) → admits (Specifiers s) (node (program (SpecifierAs s)) ts) ≡ true
  keeps : (v : Surroundings) (ts : Forest) → has_plain_params ts ≡ true → so_far.keeps (program (Specifier s)) v ts ≡ true
  keeps_as : (v : Surroundings) (ts : Forest) → has_plain_params ts ≡ true → so_far.keeps (program (SpecifierAs s)) v ts ≡ true

lists : (s : Side) → Lists s
lists Imported = record { leafless = λ k t h. cc; kind = λ k ts r. standing (Specifiers Imported) (is_at Imported) refl k (taken_by r) (kind_home (Specifiers Imported) k ts (home_of r)); never = refl; restless = refl; home = λ ts. refl; home_as = λ ts. refl; keeps = λ v ts h. and_both _ _ h refl; keeps_as = λ v ts h. and_both _ _ h refl }
lists Exported = record { leafless = λ k t h. cc; kind = λ k ts r. standing (Specifiers Exported) (is_at Exported) refl k (taken_by r) (kind_home (Specifiers Exported) k ts (home_of r)); never = refl; restless = refl; home = λ ts. refl; home_as = λ ts. refl; keeps = λ v ts h. and_both _ _ h refl; keeps_as = λ v ts h. and_both _ _ h refl }
lists From = record { leafless = λ k t h. cc; kind = λ k ts r. standing (Specifiers From) (is_at From) refl k (taken_by r) (kind_home (Specifiers From) k ts (home_of r)); never = refl; restless = refl; home = λ ts. refl; home_as = λ ts. refl; keeps = λ v ts h. and_both _ _ h refl; keeps_as = λ v ts h. and_both _ _ h refl }

at_side : {v : Surroundings} {x y : Place} (s : Side) (t : Tree) → Staged v false (Specifiers s) x t y → AtSide s t
at_side s (leaf k t) r = absurd ((lists s).leafless k t r.staged)
at_side s (node k ts) r = kind_at s k ts ((lists s).kind k ts r)
at_side s (list ts) r = absurd (no_list r)

-- ---- as it is written, and back

record Back (s : Side) (v : Surroundings) (x : Place) (u : Tree) (y : Place) : Type 0 where
  tree' : Tree
  reads : Staged v false (Specifiers From) x tree' y
  fits' : fits s tree' ≡ true
  is : as_side s tree' ≡ u

single_back : {v : Surroundings} {x y : Place} {us ts : Forest} (s : Side) → Walk Staged (around v us) (row_so_far (program (Specifier s))) x ts y → Back s v x (node (program (Specifier s)) ts) y
single_back {v} s (next (tree {t = t} q) (done f)) =
    let n = named (only_naming s) t q in
    record {
      tree' = node (program (Specifier From)) (part (leaf IdentifierName n.text) none);
      reads = of_so_far.to_node (program (Specifier From)) refl (record { walk = next (tree n.reads) (done f); keeps = refl });
      fits' = n.fits';
      is = ap (λ u. node (program (Specifier s)) (part u none)) (sym n.is);
    }

renamed_back : {v : Surroundings} {x y : Place} {us ts : Forest} (s : Side) → Walk Staged (around v us) (row_so_far (program (SpecifierAs s))) x ts y → Back s v x (node (program (SpecifierAs s)) ts) y
renamed_back {v} s (next (tree {t = t} q) (next (sign e f) (next (tree {t = u} r) (done g)))) =
    let n = named (outer_naming s) t q in
    let m = named (inner_naming s) u r in
    record {
      tree' = node (program (SpecifierAs From)) (part (leaf IdentifierName n.text) (part (leaf IdentifierName m.text) none));
      reads = of_so_far.to_node (program (SpecifierAs From)) refl (record { walk = next (tree n.reads) (next (sign e f) (next (tree m.reads) (done g))); keeps = refl });
      fits' = and_both _ _ n.fits' m.fits';
      is = λ i. node (program (SpecifierAs s)) (part (sym n.is i) (part (sym m.is i) none));
    }

to_written : {v : Surroundings} {x y : Place} (s : Side) (u : Tree) → Staged v false (Specifiers s) x u y → Back s v x u y
to_written {v} {x} {y} s u r = by (at_side s u r) r
  where
    by : {t : Tree} → AtSide s t → Staged v false (Specifiers s) x t y → Back s v x t y
    by (single {ts}) q = single_back {us = ts} s (of_so_far.from_node (program (Specifier s)) q).walk
    by (renamed {ts}) q = renamed_back {us = ts} s (of_so_far.from_node (program (SpecifierAs s)) q).walk

-- the names of what is written, told by its parts
single_to : {v : Surroundings} {x y : Place} {us ts : Forest} (s : Side) → fits s (node (program (Specifier From)) ts) ≡ true → Walk Staged (around v us) (row_so_far (program (Specifier From))) x ts y → Staged v false (Specifiers s) x (node (program (Specifier s)) ts) y
single_to {v} {x} {y} s h (next (tree {t = t} q) (done f)) = by t (named any t q) h q
  where
    by : (u : Tree) → Named v Name x u y → fits s (node (program (Specifier From)) (part u none)) ≡ true → Staged v false Name x u y → Staged v false (Specifiers s) x (node (program (Specifier s)) (part u none)) y
    by (leaf IdentifierName a) n h q = of_so_far.to_node (program (Specifier s)) ((lists s).home (part (leaf IdentifierName a) none)) (record { walk = next (tree (place_named (only_naming s) h q)) (done f); keeps = (lists s).keeps v (part (leaf IdentifierName a) none) refl })
    by (leaf _ a) n h q = let bad = q.staged in cc
    by (node k ts) n h q = cc
    by (list ts) n h q = cc

renamed_to : {v : Surroundings} {x y : Place} {us ts : Forest} (s : Side) → fits s (node (program (SpecifierAs From)) ts) ≡ true → Walk Staged (around v us) (row_so_far (program (SpecifierAs From))) x ts y → Staged v false (Specifiers s) x (node (program (SpecifierAs s)) ts) y
renamed_to {v} {x} {y} s h (next {y = x1} (tree {t = t} q) (next {y = x2} (sign e f) (next (tree {t = u} r) (done g)))) =
    let n = named any t q in
    let m = named any u r in
    let h' : (word_in (outer s) n.text && word_in (inner s) m.text) ≡ true = subst (λ b. fits s (node (program (SpecifierAs From)) (part (leaf IdentifierName n.text) (part b none))) ≡ true) m.is (subst (λ a. fits s (node (program (SpecifierAs From)) (part a (part u none))) ≡ true) n.is h) in
    subst (λ a. Staged v false (Specifiers s) x (node (program (SpecifierAs s)) (part a (part u none))) y) (sym n.is)
    (subst (λ b. Staged v false (Specifiers s) x (node (program (SpecifierAs s)) (part (leaf IdentifierName n.text) (part b none))) y) (sym m.is)
    (of_so_far.to_node (program (SpecifierAs s)) ((lists s).home_as (part (leaf IdentifierName n.text) (part (leaf IdentifierName m.text) none))) (record {
      walk = next (tree (place_named (outer_naming s) (and_left (word_in (outer s) n.text) _ h') n.reads)) (next (sign e f) (next (tree (place_named (inner_naming s) (and_right (word_in (outer s) n.text) _ h') m.reads)) (done g)));
      keeps = (lists s).keeps_as v (part (leaf IdentifierName n.text) (part (leaf IdentifierName m.text) none)) refl;
    })))

from_written : {v : Surroundings} {x y : Place} (s : Side) (t : Tree) → fits s t ≡ true → Staged v false (Specifiers From) x t y → Staged v false (Specifiers s) x (as_side s t) y
from_written {v} {x} {y} s t h r = by (at_side From t r) h r
  where
    by : {u : Tree} → AtSide From u → fits s u ≡ true → Staged v false (Specifiers From) x u y → Staged v false (Specifiers s) x (as_side s u) y
    by (single {ts}) h q = single_to {us = ts} s h (of_so_far.from_node (program (Specifier From)) q).walk
    by (renamed {ts}) h q = renamed_to {us = ts} s h (of_so_far.from_node (program (SpecifierAs From)) q).walk

-- ---- lists

whole_at : {v : Surroundings} {x y : Place} {t : Tree} (s : Side) → Staged v false (Specifiers s) x t y → Whole so_far v false (Specifiers s) x t y
whole_at {y = y} s r = record { reads = r; ends_there = of_so_far.ends_there (Specifiers s) y (never_stops (Specifiers s) y (lists s).never) }

record BackList (s : Side) (v : Surroundings) (x : Place) (us : Forest) (y : Place) : Type 0 where
  trees : Forest
  items : Items (Whole so_far) v Commas (Specifiers From) x trees y
  fits' : all_of (fits s) trees ≡ true
  is : each (as_side s) trees ≡ us

-- a tree before others of a list
cons_items : {v : Surroundings} {x y z w : Place} {t : Tree} (ts : Forest) → (ts ≡ none → ⊥) → Staged v false (Specifiers From) x t y → forth (pun ",") y ≡ z → Items (Whole so_far) v Commas (Specifiers From) z ts w → Items (Whole so_far) v Commas (Specifiers From) x (part t ts) w
cons_items none n r e all = absurd (n refl)
cons_items {t = t} (part u us) n r e all = more (early (Specifiers From) t refl r.reads.is) (whole_at From r) e all

never_none : (s : Side) (ts us : Forest) (u : Tree) → each (as_side s) ts ≡ part u us → ts ≡ none → ⊥
never_none s none us u e g = cc
never_none s (part t ts) us u e g = cc

list_back : (s : Side) {v : Surroundings} {x y : Place} {us : Forest} → Items (Whole so_far) v Commas (Specifiers s) x us y → BackList s v x us y
list_back s (nil f) = record { trees = none; items = nil f; fits' = refl; is = refl }
list_back s (last {t = t} r e f) =
    let b = to_written s t r.reads in
    record { trees = part b.tree' none; items = last (whole_at From b.reads) e f; fits' = and_both _ _ b.fits' refl; is = ap (λ u. part u none) b.is }
list_back s (more {t = t} {u = u} {us = us} n r e all) =
    let b = to_written s t r.reads in
    let l = list_back s all in
    record { trees = part b.tree' l.trees; items = cons_items l.trees (never_none s l.trees us u l.is) b.reads e l.items; fits' = and_both _ _ b.fits' l.fits'; is = λ i. part (b.is i) (l.is i) }

list_to : {v : Surroundings} {x y : Place} {ts : Forest} (s : Side) → all_of (fits s) ts ≡ true → Items (Whole so_far) v Commas (Specifiers From) x ts y → Items (Whole so_far) v Commas (Specifiers s) x (each (as_side s) ts) y
list_to s h (nil f) = nil f
list_to s h (last {t = t} r e f) = last (whole_at s (from_written s t (and_left (fits s t) true h) r.reads)) e f
list_to s h (more {t = t} n r e all) =
    let q = from_written s t (and_left (fits s t) _ h) r.reads in
    more (early (Specifiers s) (as_side s t) (lists s).restless q.reads.is) (whole_at s q) e (list_to s (and_right (fits s t) _ h) all)

-- a specifier is as deep on either side
same_deep : (s : Side) (t : Tree) → fits s t ≡ true → part_depth (as_side s t) ≡ part_depth t
same_deep s (node (program (Specifier From)) (part (leaf IdentifierName a) none)) h = refl
same_deep s (node (program (SpecifierAs From)) (part (leaf IdentifierName a) (part (leaf IdentifierName b) none))) h = refl
same_deep s _ h = cc

each_deep : (s : Side) (ts : Forest) → all_of (fits s) ts ≡ true → deepest (each (as_side s) ts) ≡ deepest ts
each_deep s none h = refl
each_deep s (part t ts) h = λ i. max (same_deep s t (and_left (fits s t) _ h) i) (each_deep s ts (and_right (fits s t) _ h) i)

-- ---- rows that begin with a list and its brace

record Parted (s : Side) (v : Surroundings) (qs : List Piece) (x : Place) (us : Forest) (w : Place) : Type 0 where
  trees : Forest
  rest : Forest
  place : Place
  is : part (list (each (as_side s) trees)) rest ≡ us
  fits' : all_of (fits s) trees ≡ true
  front : Walk (Whole so_far) (steady v) (specifier_row From) x (part (list trees) none) place
  back : Walk (Whole so_far) (steady v) qs place rest w

parted : {v : Surroundings} {qs : List Piece} {x w : Place} {us : Forest} (s : Side) → Walk (Whole so_far) (steady v) (specifier_row s ++ qs) x us w → Parted s v qs x us w
parted s (next (many e all) (next {y = m} {ts = vs} (sign g f) walk)) =
    let b = list_back s all in
    record { trees = b.trees; rest = vs; place = m; is = ap (λ ts. part (list ts) vs) b.is; fits' = b.fits'; front = next (many refl b.items) (next (sign g f) (done f)); back = walk }

abbrev listed : Forest → Forest
listed (part (list ts) us) = ts
listed ts = ts

-- what is read with any names, before other symbols
joined : {v : Surroundings} {qs : List Piece} {x y z : Place} {ts us vs : Forest} (s : Side) → all_of (fits s) ts ≡ true → Walk (Whole so_far) (steady v) (specifier_row From) x vs y → vs ≡ part (list ts) none → Walk (Whole so_far) (steady v) qs y us z → Walk (Whole so_far) (steady v) (specifier_row s ++ qs) x (part (list (each (as_side s) ts)) us) z
joined {v} {x = x} s h (next {y = m} (many {ts = vs} e all) (next (sign g f) (done k))) is walk =
    next (many refl (list_to s h (subst (λ ws. Items (Whole so_far) v Commas (Specifiers From) x ws m) (ap listed is) all))) (next (sign g f) walk)

pub side_then : {v : Surroundings} {qs : List Piece} {x y z : Place} {ts us : Forest} (s : Side) → OnlyRow so_far v (specifier_row From) x (part (list ts) none) y → all_of (fits s) ts ≡ true → OnlyRow so_far v qs y us z → OnlyRow so_far v (specifier_row s ++ qs) x (part (list (each (as_side s) ts)) us) z
side_then {v} {qs} {x} {y} {z} {ts} {us} s o h r = record { walk = joined s h o.walk refl r.walk; alone = at }
  where
    at : (vs : Forest) (w : Place) → Walk (Whole so_far) (steady v) (specifier_row s ++ qs) x vs w → (part (list (each (as_side s) ts)) us ≡ vs) × (z ≡ w)
    at vs w walk =
        let p = parted s walk in
        let first = o.alone _ p.place p.front in
        let second = r.alone p.rest w (subst (λ q. Walk (Whole so_far) (steady v) qs q p.rest w) (sym first.1) p.back) in
        ((λ i. part (list (each (as_side s) (listed (first.0 i)))) (second.0 i)) ∙ p.is, second.1)

pub side_on : {v : Surroundings} {qs : List Piece} {x y : Place} {ts : Forest} {e : Fault} (s : Side) → OnlyRow so_far v (specifier_row From) x ts y → NoRow so_far v qs y e → NoRow so_far v (specifier_row s ++ qs) x e
side_on {v} {qs} {e = e} s o n = record {
  no = λ us w walk h.
      let p = parted s walk in
      n.no p.rest w (subst (λ q. Walk (Whole so_far) (steady v) qs q p.rest w) (sym (o.alone _ p.place p.front).1) p.back) (shallow_tail e (list (each (as_side s) p.trees)) p.rest (subst (λ vs. Shallow e (deepest vs)) (sym p.is) h));
}

pub side_none : {v : Surroundings} {qs : List Piece} {x : Place} {e : Fault} (s : Side) → NoRow so_far v (specifier_row From) x e → NoRow so_far v (specifier_row s ++ qs) x e
side_none {e = e} s n = record {
  no = λ us w walk h.
      let p = parted s walk in
      n.no _ p.place p.front (shallow_alone e (one (list p.trees)) (subst (λ d. Shallow e d) (each_deep s p.trees p.fits') (shallow_head e (list (each (as_side s) p.trees)) p.rest (subst (λ vs. Shallow e (deepest vs)) (sym p.is) h))));
}

pub side_unfit : {v : Surroundings} {qs : List Piece} {x y : Place} {ts : Forest} {e : Fault} (s : Side) → OnlyRow so_far v (specifier_row From) x (part (list ts) none) y → all_of (fits s) ts ≡ false → NoRow so_far v (specifier_row s ++ qs) x e
side_unfit s o h = record { no = λ us w walk a. let p = parted s walk in clash _ (ap (λ vs. all_of (fits s) (listed vs)) (o.alone _ p.place p.front).0 ∙ p.fits') h }

-- ---- what the code has of them

same_view : (s : Side) (a : Written) → as_side s (view_specifier From a) ≡ view_specifier s a
same_view s (specifier.Same at a) = refl
same_view s (specifier.As at a b) = refl

pub viewed : (s : Side) (xs : List Written) → each (as_side s) (written xs) ≡ forest (map (view_specifier s) xs)
viewed s [] = refl
viewed s (a ∷ xs) = λ i. part (same_view s a i) (viewed s xs i)

pub side_row : {v : Surroundings} {x y : Place} (s : Side) (xs : List Written) → IsTrue (is_found y) → OnlyRow so_far v (specifier_row From) x (part (list (written xs)) none) y → all_of (fits s) (written xs) ≡ true → OnlyRow so_far v (specifier_row s ++ []) x (part (list (forest (map (view_specifier s) xs))) none) y
side_row {v} {x} {y} s xs f o h = subst (λ ts. OnlyRow so_far v (specifier_row s ++ []) x (part (list ts) none) y) (viewed s xs) (side_then s o h (end f))
