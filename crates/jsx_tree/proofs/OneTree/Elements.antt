-- Two elements that begin at one place are one.
use Rattle.std.proofs.Common.{◌≡◌, Bool, true, false, List, [], ◌∷◌, refl, sym, subst}
use Rattle.std.specs.Prelude.{IsTrue, codes}
use Rattle.jsx_base.specs.Token.{Mode, Operand, Tag, Children, Punctuator}
use Rattle.jsx_tree.specs.Signs.{Tok}
use Rattle.jsx_tree.specs.Kinds.{Element, ElementWithChildren, Fragment, Kind, jsx, Tree, node, list, Forest, none, part}
use Rattle.jsx_tree.specs.Nonterminals.{Nonterminal}
use Rattle.jsx_tree.specs.Grammar.{Spaced, JsxChildren, Context, Fixed, tag}
use Rattle.jsx_tree.specs.StaticRules.{Surroundings}
use Rattle.jsx_tree.specs.Reading.{Place, forth}
use Rattle.jsx_tree.specs.Walk as W
use Rattle.jsx_tree.specs.Walk.{is_found, IsRead}
use Rattle.jsx_tree.proofs.Rows.Bridge.{node_walk}
use Rattle.jsx_tree.proofs.OneTree.Sealed.{is_element}
use Rattle.jsx_tree.proofs.OneTree.Evidence.{Kepts, kept_left, kept_right, kept_list}
use Rattle.jsx_tree.proofs.OneTree.Lists.{SameRow}
use Rattle.jsx_tree.proofs.OneTree.Ahead.{Ahead, ahead, unlike, signs_same, tokens_clash, Run, run_first, runs_same, run_of}
use Rattle.jsx_tree.proofs.OneTree.TagNames.{Named, tag_name, closing, behind_name, to_name, name_here, named_same}
use Rattle.jsx_tree.proofs.OneTree.TagAttributes.{Attr, attributes, attr_reader}
use Rattle.jsx_tree.proofs.OneTree.Children.{Held, children, child_reader, Shut}

-- a tag's begin, with its name and attributes
record Begun (m : Mode) (x : Place) (t : Tree) (bs : Forest) (y : Place) : Type 0 where
  inside : Place
  next : Place
  moves : forth (Tok m Punctuator (codes "<")) x ≡ inside
  found : IsTrue (is_found inside)
  name : Named inside t next
  attrs : Run Attr next bs y

record SameBegun (t u : Tree) (bs cs : Forest) (y z : Place) : Type 0 where
  name : t ≡ u
  attrs : bs ≡ cs
  place : y ≡ z

begun_same : {m : Mode} {x y z : Place} {t u : Tree} {bs cs : Forest} → Begun m x t bs y → Begun m x u cs z → Ahead Tag closing y → Ahead Tag closing z → SameBegun t u bs cs y z
begun_same {m} {x} {z = z} {cs = cs} a b e f =
    let s = named_same (signs_same (Tok m Punctuator (codes "<")) {x = x} refl a.moves b.moves) a.name b.name (to_name (run_first attributes a.attrs e)) (to_name (run_first attributes b.attrs f)) in
    let o = runs_same attributes a.attrs (subst (λ p. Run Attr p cs z) (sym s.place) b.attrs) e f in
    record { name = s.tree; attrs = o.trees; place = o.place }

-- `<a/>`, `<a>..</a>` and `<>..</>`
data Elem (m : Mode) : Place → Kind → Forest → Place → Type 0 where
  alone : {x p q y : Place} {t : Tree} {bs : Forest} → Begun m x t bs p → forth (tag "/") p ≡ q → IsTrue (is_found q) → forth (tag ">") q ≡ y → IsTrue (is_found y) → Elem m x (jsx Element) (part t (part (list bs) none)) y
  full : {x p q r s o y : Place} {t u : Tree} {bs cs : Forest} → Begun m x t bs p → forth (tag ">") p ≡ q → IsTrue (is_found q) → Run Held q cs r → Shut r s → Named s u o → forth (tag ">") o ≡ y → IsTrue (is_found y) → Elem m x (jsx ElementWithChildren) (part t (part (list bs) (part (list cs) (part u none)))) y
  fragment : {x p q r s y : Place} {cs : Forest} → forth (Tok m Punctuator (codes "<")) x ≡ p → IsTrue (is_found p) → forth (tag ">") p ≡ q → IsTrue (is_found q) → Run Held q cs r → Shut r s → forth (tag ">") s ≡ y → IsTrue (is_found y) → Elem m x (jsx Fragment) (part (list cs) none) y

shut_same : {x x' y z : Place} → x ≡ x' → Shut x y → Shut x' z → y ≡ z
shut_same o a b = signs_same (tag "/") (signs_same (Tok Children Punctuator (codes "<")) o a.moves b.moves) a.slash b.slash

-- what stands between two tags, and the second to its slash
held_all : {x x' r s y z : Place} {bs cs : Forest} → x ≡ x' → Run Held x bs r → Run Held x' cs s → Shut r y → Shut s z → SameRow bs cs y z
held_all {s = s} {y} {z} {cs = cs} o a b e f =
    let q = runs_same children a (subst (λ x. Run Held x cs s) (sym o) b) (record { behind = y; shut = e }) (record { behind = z; shut = f }) in
    record { trees = q.trees; place = shut_same q.place e f }

elem_same : {m : Mode} {x y z : Place} {k l : Kind} {cs ds : Forest} → Elem m x k cs y → Elem m x l ds z → (node k cs ≡ node l ds) × (y ≡ z)
elem_same (alone a c f d g) (alone b c' f' d' g') =
    let s = begun_same a b (ahead Tag closing Punctuator (codes "/") c f refl) (ahead Tag closing Punctuator (codes "/") c' f' refl) in
    ((λ i. node (jsx Element) (part (s.name i) (part (list (s.attrs i)) none))), signs_same (tag ">") (signs_same (tag "/") s.place c c') d d')
elem_same (full a c f h e n d g) (full b c' f' h' e' n' d' g') =
    let s = begun_same a b (ahead Tag closing Punctuator (codes ">") c f refl) (ahead Tag closing Punctuator (codes ">") c' f' refl) in
    let o = held_all (signs_same (tag ">") s.place c c') h h' e e' in
    let r = named_same o.place n n' (ahead Tag behind_name Punctuator (codes ">") d g refl) (ahead Tag behind_name Punctuator (codes ">") d' g' refl) in
    ((λ i. node (jsx ElementWithChildren) (part (s.name i) (part (list (s.attrs i)) (part (list (o.trees i)) (part (r.tree i) none))))), signs_same (tag ">") r.place d d')
elem_same {m} {x} (fragment a p c f h e d g) (fragment a' p' c' f' h' e' d' g') =
    let o = held_all (signs_same (tag ">") (signs_same (Tok m Punctuator (codes "<")) {x = x} refl a a') c c') h h' e e' in
    ((λ i. node (jsx Fragment) (part (list (o.trees i)) none)), signs_same (tag ">") o.place d d')
elem_same (alone a c f d g) (full b c' f' h' e' n' d' g') =
    let s = begun_same a b (ahead Tag closing Punctuator (codes "/") c f refl) (ahead Tag closing Punctuator (codes ">") c' f' refl) in
    absurd (tokens_clash Tag Punctuator Punctuator (codes "/") (codes ">") s.place c f c' f' refl)
elem_same (full a c f h e n d g) (alone b c' f' d' g') =
    let s = begun_same a b (ahead Tag closing Punctuator (codes ">") c f refl) (ahead Tag closing Punctuator (codes "/") c' f' refl) in
    absurd (tokens_clash Tag Punctuator Punctuator (codes ">") (codes "/") s.place c f c' f' refl)
elem_same {m} {x} (alone a c f d g) (fragment a' p' c' f' h' e' d' g') = absurd (unlike (name_here a.name) (signs_same (Tok m Punctuator (codes "<")) {x = x} refl a.moves a') Punctuator (codes ">") c' f' refl)
elem_same {m} {x} (full a c f h e n d g) (fragment a' p' c' f' h' e' d' g') = absurd (unlike (name_here a.name) (signs_same (Tok m Punctuator (codes "<")) {x = x} refl a.moves a') Punctuator (codes ">") c' f' refl)
elem_same {m} {x} (fragment a p c f h e d g) (alone b c' f' d' g') = absurd (unlike (name_here b.name) (signs_same (Tok m Punctuator (codes "<")) {x = x} refl b.moves a) Punctuator (codes ">") c f refl)
elem_same {m} {x} (fragment a p c f h e d g) (full b c' f' h' e' n' d' g') = absurd (unlike (name_here b.name) (signs_same (Tok m Punctuator (codes "<")) {x = x} refl b.moves a) Punctuator (codes ">") c f refl)

-- the rows of elements, with the bracket read where an expression may begin or among text
abbrev row_in : Mode → List W.Piece → List W.Piece
row_in m ps = W.piece [] (Fixed (Tok m Punctuator (codes "<"))) ∷ ps

abbrev rest_of : Kind → List W.Piece
rest_of k = W.tail (W.row false k)

alone_row : {m : Mode} {V : List Context → Surroundings} {x y : Place} {cs : Forest} → W.Walk IsRead V (row_in m (rest_of (jsx Element))) x cs y → Kepts cs → Elem m x (jsx Element) cs y
alone_row (W.next (W.sign a f) (W.next (W.tree {t = t} r) (W.next (W.many n i) (W.next (W.sign c g) (W.next (W.sign d j) (W.done o)))))) h =
    alone (record { inside = _; next = _; moves = a; found = f; name = tag_name t (kept_left h) r; attrs = run_of Spaced refl attr_reader i (kept_list (kept_right h)) }) c g d j

full_row : {m : Mode} {V : List Context → Surroundings} {x y : Place} {cs : Forest} → W.Walk IsRead V (row_in m (rest_of (jsx ElementWithChildren))) x cs y → Kepts cs → Elem m x (jsx ElementWithChildren) cs y
full_row (W.next (W.sign a f) (W.next (W.tree {t = t} r) (W.next (W.many n i) (W.next (W.sign c g) (W.next (W.many n' i') (W.next (W.sign e j) (W.next (W.sign e' j') (W.next (W.tree {t = u} q) (W.next (W.sign d k) (W.done o)))))))))) h =
    full (record { inside = _; next = _; moves = a; found = f; name = tag_name t (kept_left h) r; attrs = run_of Spaced refl attr_reader i (kept_list (kept_right h)) }) c g
    (run_of JsxChildren refl child_reader i' (kept_list (kept_right (kept_right h)))) (record { inside = _; moves = e; found = j; slash = e'; found' = j' }) (tag_name u (kept_left (kept_right (kept_right (kept_right h)))) q) d k

fragment_row : {m : Mode} {V : List Context → Surroundings} {x y : Place} {cs : Forest} → W.Walk IsRead V (row_in m (rest_of (jsx Fragment))) x cs y → Kepts cs → Elem m x (jsx Fragment) cs y
fragment_row (W.next (W.sign a f) (W.next (W.sign c g) (W.next (W.many n i) (W.next (W.sign e j) (W.next (W.sign e' j') (W.next (W.sign d k) (W.done o))))))) h =
    fragment a f c g (run_of JsxChildren refl child_reader i (kept_list h)) (record { inside = _; moves = e; found = j; slash = e'; found' = j' }) d k

abbrev angle_mode : Bool → Mode
angle_mode true = Children
angle_mode false = Operand

elem_at : (b : Bool) (k : Kind) (cs : Forest) {v : Surroundings} {c : Nonterminal} {x y : Place} → is_element k ≡ true → Kepts cs → IsRead v b c x (node k cs) y → Elem (angle_mode b) x k cs y
elem_at true (jsx Element) cs s h r = alone_row (node_walk true (jsx Element) refl r).walk h
elem_at false (jsx Element) cs s h r = alone_row (node_walk false (jsx Element) refl r).walk h
elem_at true (jsx ElementWithChildren) cs s h r = full_row (node_walk true (jsx ElementWithChildren) refl r).walk h
elem_at false (jsx ElementWithChildren) cs s h r = full_row (node_walk false (jsx ElementWithChildren) refl r).walk h
elem_at true (jsx Fragment) cs s h r = fragment_row (node_walk true (jsx Fragment) refl r).walk h
elem_at false (jsx Fragment) cs s h r = fragment_row (node_walk false (jsx Fragment) refl r).walk h
elem_at b (jsx _) cs s h r = cc
elem_at b _ cs s h r = cc

-- two elements at one place, among text or not
pub elements_same : (b : Bool) (k l : Kind) (cs ds : Forest) {v w : Surroundings} {c : Nonterminal} {x y z : Place} → is_element k ≡ true → is_element l ≡ true → Kepts cs → Kepts ds → IsRead v b c x (node k cs) y → IsRead w b c x (node l ds) z → (node k cs ≡ node l ds) × (y ≡ z)
elements_same b k l cs ds s t h h' r q = elem_same (elem_at b k cs s h r) (elem_at b l ds t h' q)
