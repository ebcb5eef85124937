-- The first clash among the events of a tree is that of the definitions.
use Rattle.std.proofs.Common.{◌≡◌, ℕ, suc, List, [], ◌∷◌, ◌++◌, Bool, true, false, cond, refl, sym, ap, ◌∙◌, append_assoc, append-nil}
use Rattle.jsx_tree.specs.Kinds.{Kind, Tree, leaf, node, list, Forest, none, part}
use Rattle.jsx_tree.specs.Form.{Position, position, positions}
use Rattle.jsx_tree.specs.Sound.{each_node, each_nodes}
use Rattle.jsx_tree.specs.Scopes.{Path, below, Declaration}
use Rattle.jsx_tree.specs.Clashes.{Place, AtName, clashes_with, later, own_clashes, clashes_below, clashes_each, first_of}
use Rattle.jsx_tree.proofs.Tokens.{and_left, and_right}
use Rattle.jsx_names.specs.Events.{Event, Opens, Enters, Closes, Declares, Refers, Exports, Wants, Evals, Mode, mode, is_scope, frame, has_scope, inner, is_inner, events_parts}
use Rattle.jsx_names.specs.Answers.{all_of, collected, is_wide, clashing}
use Rattle.jsx_names.specs.Resolved.{inner_names, outer_names, within, clashed, clashed_parts, clashed_each}
use Rattle.jsx_names.specs.Proper.{is_program, has_form, fill, is_proper}
use Rattle.jsx_names.proofs.Bound.{not_so}
use Rattle.jsx_names.proofs.Shows.{shows_parts}
use Rattle.jsx_names.proofs.Evals.{inner_all, outer_first, all_ordered}
use Rattle.jsx_names.proofs.First.{each, each_append, is_at_name, names_swap, first_both}
use Rattle.jsx_names.proofs.ScopeNames.{never}
use Rattle.jsx_names.proofs.OwnClashes.{inner_late, outer_none, outer_late}
use Rattle.jsx_names.proofs.Places.{tame, tame_row, all_tame, no_whole, deep, each_deep, form_deep}

-- ---- clashes stand at names

names_if : (b : Bool) (p : Path) → each is_at_name (cond b (AtName p ∷ []) []) ≡ true
names_if true p = refl
names_if false p = refl

pub names_later : (top : Bool) (es ds : List Declaration) → each is_at_name (later top es ds) ≡ true
names_later top es [] = refl
names_later top es (d ∷ ds) = each_append is_at_name (cond (clashes_with top d es) (AtName d.at ∷ []) []) (later top (d ∷ es) ds) (names_if (clashes_with top d es) d.at) (names_later top (d ∷ es) ds)

names_clashing : (es : List Event) → each is_at_name (clashing es) ≡ true
names_clashing [] = refl
names_clashing (Opens f p ∷ es) = each_append is_at_name (later (is_wide f) [] (all_of (collected [] es))) (clashing es) (names_later (is_wide f) [] (all_of (collected [] es))) (names_clashing es)
names_clashing (Enters ∷ es) = names_clashing es
names_clashing (Closes ∷ es) = names_clashing es
names_clashing (Declares h r t p ∷ es) = names_clashing es
names_clashing (Refers t p ∷ es) = names_clashing es
names_clashing (Exports t a ∷ es) = names_clashing es
names_clashing (Wants t a ∷ es) = names_clashing es
names_clashing (Evals p ∷ es) = names_clashing es

names_parts : (b : Bool) (m : Mode) (k : Kind) (p : Path) (cs : Forest) → each is_at_name (clashed_parts b m k p 0 (positions k) cs) ≡ true
names_parts b m k p cs =
    ap (each is_at_name) (sym ((shows_parts b m k p 0 (positions k) cs).shows [] ∙ append-nil (clashed_parts b m k p 0 (positions k) cs)))
    ∙ names_clashing (events_parts b m k p 0 (positions k) cs ++ [])

names_within : (b : Bool) (m : Mode) (k : Kind) (p : Path) (cs : Forest) → each is_at_name (within b (inner k) (inner_names m k p cs)) ≡ true
names_within true m k p cs = names_later (is_wide (inner k)) [] (all_of (inner_names m k p cs))
names_within false m k p cs = refl

-- ---- a node, of its parts

node_clashes : (m : Mode) (q k : Kind) (p : Path) (cs : Forest) → is_program k ≡ false → fill (positions k) cs ≡ true → each_nodes is_proper cs ≡ true
    → first_of (clashed_parts false m k p 0 (positions k) cs ++ clashed_parts true m k p 0 (positions k) cs) ≡ first_of (clashes_each k p 0 cs)
    → first_of (within (is_scope q k) (frame k) (outer_names m k p cs) ++ (clashed_parts false m k p 0 (positions k) cs ++ (within (has_scope k) (inner k) (inner_names m k p cs) ++ clashed_parts true m k p 0 (positions k) cs)))
    ≡ first_of (own_clashes q k p cs ++ clashes_each k p 0 cs)
node_clashes m q k p cs o w h e = go (has_scope k) refl
  where
    outside : List Place
    outside = clashed_parts false m k p 0 (positions k) cs

    inside : List Place
    inside = clashed_parts true m k p 0 (positions k) cs

    hers : List Place
    hers = within (has_scope k) (inner k) (inner_names m k p cs)

    go : (b : Bool) → has_scope k ≡ b → first_of (within (is_scope q k) (frame k) (outer_names m k p cs) ++ (outside ++ (hers ++ inside))) ≡ first_of (own_clashes q k p cs ++ clashes_each k p 0 cs)
    go true x =
        ap (λ z. first_of (z ++ (outside ++ (hers ++ inside)))) (outer_none m q k p cs x w h)
        ∙ names_swap outside hers inside (names_parts false m k p cs) (names_within (has_scope k) m k p cs)
        ∙ first_both hers (outside ++ inside) (own_clashes q k p cs) (clashes_each k p 0 cs) (ap first_of (inner_late m q k p cs x w h)) e
    go false x =
        ap (λ z. first_of (within (is_scope q k) (frame k) (outer_names m k p cs) ++ (outside ++ (within z (inner k) (inner_names m k p cs) ++ inside)))) x
        ∙ first_both (within (is_scope q k) (frame k) (outer_names m k p cs)) (outside ++ inside) (own_clashes q k p cs) (clashes_each k p 0 cs) (ap first_of (outer_late m q k p cs o x w h)) e

-- ---- parts, those outside of an inner scope first

inner_first : (k : Kind) (ss : List Position) → inner_all k ss ≡ true → outer_first k ss ≡ true
inner_first k [] h = refl
inner_first k (position f c g o a ∷ ss) h = ap (λ b. cond b (inner_all k ss) (outer_first k ss)) (and_left (is_inner k c) (inner_all k ss) h) ∙ and_right (is_inner k c) (inner_all k ss) h

pub rest_first : (k : Kind) (ss : List Position) (b : Bool) → cond b (inner_all k ss) (outer_first k ss) ≡ true → outer_first k ss ≡ true
rest_first k ss true h = inner_first k ss h
rest_first k ss false h = h

pub rest_inner : (k : Kind) (ss : List Position) (b c : Bool) → b ≡ c → cond c (inner_all k ss) (outer_first k ss) ≡ true → b ≡ true → inner_all k ss ≡ true
rest_inner k ss b true e h x = h
rest_inner k ss b false e h x = never (sym e ∙ x)

no_outside : (m : Mode) (k : Kind) (p : Path) (i : ℕ) (ss : List Position) (cs : Forest) → inner_all k ss ≡ true → clashed_parts false m k p i ss cs ≡ []
no_outside m k p i [] cs h = refl
no_outside m k p i (s ∷ ss) none h = refl
no_outside m k p i (position f c g o a ∷ ss) (part t ts) h =
    ap (λ b. cond b [] (clashed (mode m k c) k (below p i) t) ++ clashed_parts false m k p (suc i) ss ts) (and_left (is_inner k c) (inner_all k ss) h)
    ∙ no_outside m k p (suc i) ss ts (and_right (is_inner k c) (inner_all k ss) h)

part_first : (b : Bool) (xs fs ts : List Place) → (b ≡ true → fs ≡ []) → (cond b [] xs ++ fs) ++ (cond b xs [] ++ ts) ≡ xs ++ (fs ++ ts)
part_first true xs fs ts f = ap (λ z. z ++ (xs ++ ts)) (f refl) ∙ sym (ap (λ z. xs ++ (z ++ ts)) (f refl))
part_first false xs fs ts f = append_assoc xs fs ts

mutual
  pub clash_tree : (m : Mode) (q : Kind) (p : Path) (t : Tree) → deep t ≡ true → each_node is_proper t ≡ true → first_of (clashed m q p t) ≡ first_of (clashes_below q p t)
  clash_tree m q p (leaf s x) d h = refl
  clash_tree m q p (list ts) d h = clash_each m q p 0 ts d h
  clash_tree m q p (node k cs) d h =
      node_clashes m q k p cs (not_so (is_program k) d) (and_left (fill (positions k) cs) (each_nodes is_proper cs) h) (and_right (fill (positions k) cs) (each_nodes is_proper cs) h)
      (clash_parts m k p 0 (positions k) cs (all_ordered k) (all_tame k) (and_left (fill (positions k) cs) (each_nodes is_proper cs) h) (and_right (fill (positions k) cs) (each_nodes is_proper cs) h))

  pub clash_parts : (m : Mode) (k : Kind) (p : Path) (i : ℕ) (ss : List Position) (cs : Forest) → outer_first k ss ≡ true → tame_row k ss ≡ true → fill ss cs ≡ true → each_nodes is_proper cs ≡ true
      → first_of (clashed_parts false m k p i ss cs ++ clashed_parts true m k p i ss cs) ≡ first_of (clashes_each k p i cs)
  clash_parts m k p i [] none e r w h = refl
  clash_parts m k p i [] (part t ts) e r w h = never w
  clash_parts m k p i (position f c g o a ∷ ss) none e r w h = never w
  clash_parts m k p i (position f c g o a ∷ ss) (part t ts) e r w h =
      let here : List Place = clashed (mode m k c) k (below p i) t in
      let outside : List Place = clashed_parts false m k p (suc i) ss ts in
      let inside : List Place = clashed_parts true m k p (suc i) ss ts in
      ap first_of (part_first (is_inner k c) here outside inside (λ x. no_outside m k p (suc i) ss ts (rest_inner k ss (is_inner k c) (is_inner k c) refl e x)))
      ∙ first_both here (outside ++ inside) (clashes_below k (below p i) t) (clashes_each k p (suc i) ts)
      (clash_tree (mode m k c) k (below p i) t (form_deep f c t (no_whole k c (and_left (tame k c) (tame_row k ss) r)) (and_left (has_form f c t) (fill ss ts) w)) (and_left (each_node is_proper t) (each_nodes is_proper ts) h))
      (clash_parts m k p (suc i) ss ts (rest_first k ss (is_inner k c) e) (and_right (tame k c) (tame_row k ss) r) (and_right (has_form f c t) (fill ss ts) w) (and_right (each_node is_proper t) (each_nodes is_proper ts) h))

  pub clash_each : (m : Mode) (q : Kind) (p : Path) (i : ℕ) (ts : Forest) → each_deep ts ≡ true → each_nodes is_proper ts ≡ true → first_of (clashed_each m q p i ts) ≡ first_of (clashes_each q p i ts)
  clash_each m q p i none d h = refl
  clash_each m q p i (part t ts) d h =
      first_both (clashed m q (below p i) t) (clashed_each m q p (suc i) ts) (clashes_below q (below p i) t) (clashes_each q p (suc i) ts)
      (clash_tree m q (below p i) t (and_left (deep t) (each_deep ts) d) (and_left (each_node is_proper t) (each_nodes is_proper ts) h))
      (clash_each m q p (suc i) ts (and_right (deep t) (each_deep ts) d) (and_right (each_node is_proper t) (each_nodes is_proper ts) h))
