-- What is told of a pattern that assigns to names alone is so of the one of the same tokens that binds them.
use Rattle.std.proofs.Common.{◌≡◌, ℕ, true, false, List, [], ◌∷◌, ◌++◌, refl, sym, ◌∙◌, ap, subst}
use Rattle.std.specs.Prelude.{IsTrue}
use Rattle.jsx_tree.specs.Kinds.{Assigns, Binds, ArrayPat, ObjectPat, PropertyPat, RestPat, RestProperty, ShorthandInit, ShorthandPat, WithInit, Kind, function, Tree, Forest}
use Rattle.jsx_tree.specs.Nonterminals.{Nonterminal, Expr, Pat, PatElement, PatProp, Slot}
use Rattle.jsx_tree.specs.Grammar.{Commas, Elisions, pun}
use Rattle.jsx_tree.specs.Reading.{Place, forth, scan}
use Rattle.jsx_tree.specs.Spelling.{each_said, joined, spelled}
use Rattle.jsx_tree.specs.Spans.{AllHold, AreTold, Extent, IsTold, Placed, Places, Tales, Told, and, each_placed, end, extent, extent_of, first_byte, from_first, list_at, list_starts, no_tales, node_at, placed, start, tale, tells, within}
use Rattle.jsx_tree.specs.Walk.{is_found}
use Rattle.jsx_token.specs.Here.{Here, place_of}
use Rattle.jsx_operand.specs.Spans.{IsPlaced, spanned}
use Rattle.jsx_operand.specs.Turning.{Suits, suits_name, suits_hole, suits_array, suits_object, suits_filled, suits_rest, suits_pair, suits_short, suits_preset, suits_others, SuitsAll, suits_none, suits_more}
use Rattle.jsx_operand.proofs.Binding.{suits_each_said, suits_said}

-- ---- what is told of a node, of several, of a list

node_told : {e f : Extent} (k l : Kind) {ps qs : Places} → e ≡ f → ((ds : Tales) → AreTold ds ps → AreTold ds qs) → (d : Told) → IsTold d (node_at e k ps) → IsTold d (node_at f l qs)
node_told {e} k l s g (tells cs ds) (h, a) = (subst (λ f. AllHold f (first_byte f) cs) s h, g ds a)

and_told : {p q : Placed} {ps qs : Places} → ((d : Told) → IsTold d p → IsTold d q) → ((ds : Tales) → AreTold ds ps → AreTold ds qs) → (ds : Tales) → AreTold ds (and p ps) → AreTold ds (and q qs)
and_told f g no_tales h = absurd h
and_told f g (tale d ds) (h, a) = (f d h, g ds a)

list_told : {ps qs : Places} → ((ds : Tales) → AreTold ds ps → AreTold ds qs) → (d : Told) → IsTold d (list_at ps) → IsTold d (list_at qs)
list_told g (tells cs ds) (h, a) = (h, g ds a)

-- from another place
told_from : (n : ℕ) (c : Nonterminal) (t : Tree) {x y : Place} → x ≡ y → (d : Told) → IsTold d (placed n (start c false (x ∷ [])) t) → IsTold d (placed n (start c false (y ∷ [])) t)
told_from n c t e d h = subst (λ z. IsTold d (placed n (start c false (z ∷ [])) t)) e h

each_from : (n : ℕ) (c : Nonterminal) (us : Forest) {xs ys : List Place} → xs ≡ ys → (ds : Tales) → AreTold ds (each_placed n c false xs us) → AreTold ds (each_placed n c false ys us)
each_from n c us e ds h = subst (λ zs. AreTold ds (each_placed n c false zs us)) e h

-- ---- by the relation

spelled_same : {p q : Tree} → Suits p q → spelled p ≡ spelled q
spelled_same s = ap joined (suits_said s)

extent_same : {p q : Tree} (n : ℕ) (x : Place) → Suits p q → extent_of n x (spelled p) ≡ extent_of n x (spelled q)
extent_same n x s = ap (extent_of n x) (spelled_same s)

array_told : (ts us : Forest) (n : ℕ) (x : Place) → each_said ts ≡ each_said us → ((xs : List Place) (ds : Tales) → AreTold ds (each_placed n (Slot Assigns) false xs ts) → AreTold ds (each_placed n (Slot Binds) false xs us))
    → (ds : Tales) → AreTold ds (and (list_at (each_placed n (Slot Assigns) false (list_starts Elisions (forth (pun "[") x) (each_said ts)) ts)) end) → AreTold ds (and (list_at (each_placed n (Slot Binds) false (list_starts Elisions (forth (pun "[") x) (each_said us)) us)) end)
array_told ts us n x e f = and_told (list_told (λ ds a. each_from n (Slot Binds) us (ap (list_starts Elisions (forth (pun "[") x)) e) ds (f (list_starts Elisions (forth (pun "[") x) (each_said ts)) ds a))) (λ ds a. a)

object_told : (ts us : Forest) (n : ℕ) (x : Place) → each_said ts ≡ each_said us → ((xs : List Place) (ds : Tales) → AreTold ds (each_placed n (PatProp Assigns) false xs ts) → AreTold ds (each_placed n (PatProp Binds) false xs us))
    → (ds : Tales) → AreTold ds (and (list_at (each_placed n (PatProp Assigns) false (list_starts Commas (forth (pun "{") x) (each_said ts)) ts)) end) → AreTold ds (and (list_at (each_placed n (PatProp Binds) false (list_starts Commas (forth (pun "{") x) (each_said us)) us)) end)
object_told ts us n x e f = and_told (list_told (λ ds a. each_from n (PatProp Binds) us (ap (list_starts Commas (forth (pun "{") x)) e) ds (f (list_starts Commas (forth (pun "{") x) (each_said ts)) ds a))) (λ ds a. a)

filled_told : (p q e : Tree) (n : ℕ) (x : Place) → spelled p ≡ spelled q → ((t : Told) → IsTold t (placed n (start (Pat Assigns) false (x ∷ [])) p) → IsTold t (placed n (start (Pat Binds) false (x ∷ [])) q))
    → (ds : Tales) → AreTold ds (and (placed n (start (Pat Assigns) false (x ∷ [])) p) (and (placed n (start (Expr 1) false (forth (pun "=") (scan x (spelled p)) ∷ [])) e) end)) → AreTold ds (and (placed n (start (Pat Binds) false (x ∷ [])) q) (and (placed n (start (Expr 1) false (forth (pun "=") (scan x (spelled q)) ∷ [])) e) end))
filled_told p q e n x s f = and_told f (and_told (told_from n (Expr 1) e (ap (λ ms. forth (pun "=") (scan x ms)) s)) (λ ds a. a))

mutual
  suits_told : {p q : Tree} → Suits p q → (n : ℕ) (c d : Nonterminal) (x : Place) (t : Told) → IsTold t (placed n (start c false (x ∷ [])) p) → IsTold t (placed n (start d false (x ∷ [])) q)
  suits_told suits_name n c d x t h = h
  suits_told suits_hole n c d x t h = h
  suits_told (suits_array {ts = ts} {us = us} l) n c d x t h = node_told (function (ArrayPat Assigns)) (function (ArrayPat Binds)) (extent_same n x (suits_array l)) (array_told ts us n x (suits_each_said l) (each_told l n (Slot Assigns) (Slot Binds))) t h
  suits_told (suits_object {ts = ts} {us = us} l) n c d x t h = node_told (function (ObjectPat Assigns)) (function (ObjectPat Binds)) (extent_same n x (suits_object l)) (object_told ts us n x (suits_each_said l) (each_told l n (PatProp Assigns) (PatProp Binds))) t h
  suits_told (suits_filled {p = p} {q = q} {e = e} s) n c d x t h = node_told (function (WithInit Assigns)) (function (WithInit Binds)) (extent_same n x (suits_filled {e = e} s)) (filled_told p q e n x (spelled_same s) (suits_told s n (Pat Assigns) (Pat Binds) x)) t h
  suits_told (suits_rest s) n c d x t h = node_told (function (RestPat Assigns)) (function (RestPat Binds)) (extent_same n x (suits_rest s)) (and_told (suits_told s n (Pat Assigns) (Pat Binds) (forth (pun "...") x)) (λ ds a. a)) t h
  suits_told (suits_pair {k = k} s) n c d x t h = node_told (function (PropertyPat Assigns)) (function (PropertyPat Binds)) (extent_same n x (suits_pair {k = k} s)) (and_told (λ u g. g) (and_told (suits_told s n (PatElement Assigns) (PatElement Binds) (forth (pun ":") (scan x (spelled k)))) (λ ds a. a))) t h
  suits_told suits_short n c d x t h = node_told (function (ShorthandPat Assigns)) (function (ShorthandPat Binds)) refl (λ ds a. a) t h
  suits_told suits_preset n c d x t h = node_told (function (ShorthandInit Assigns)) (function (ShorthandInit Binds)) refl (λ ds a. a) t h
  suits_told suits_others n c d x t h = node_told (function (RestProperty Assigns)) (function (RestProperty Binds)) refl (λ ds a. a) t h

  each_told : {ts us : Forest} → SuitsAll ts us → (n : ℕ) (c d : Nonterminal) (xs : List Place) (ds : Tales) → AreTold ds (each_placed n c false xs ts) → AreTold ds (each_placed n d false xs us)
  each_told suits_none n c d [] ds h = h
  each_told suits_none n c d (x ∷ xs) ds h = h
  each_told (suits_more s l) n c d [] ds h = h
  each_told (suits_more s l) n c d (x ∷ xs) ds h = and_told (suits_told s n c d x) (each_told l n c d xs) ds h

-- the same in another place's stead
suits_within : {p q : Tree} → Suits p q → (n : ℕ) (c d : Nonterminal) (x : Place) (f : Extent) (t : Told) → IsTold t (within f (placed n (start c false (x ∷ [])) p)) → IsTold t (within f (placed n (start d false (x ∷ [])) q))
suits_within suits_name n c d x f t h = h
suits_within suits_hole n c d x f t h = h
suits_within (suits_array {ts = ts} {us = us} l) n c d x f t h = node_told (function (ArrayPat Assigns)) (function (ArrayPat Binds)) refl (array_told ts us n x (suits_each_said l) (each_told l n (Slot Assigns) (Slot Binds))) t h
suits_within (suits_object {ts = ts} {us = us} l) n c d x f t h = node_told (function (ObjectPat Assigns)) (function (ObjectPat Binds)) refl (object_told ts us n x (suits_each_said l) (each_told l n (PatProp Assigns) (PatProp Binds))) t h
suits_within (suits_filled {p = p} {q = q} {e = e} s) n c d x f t h = node_told (function (WithInit Assigns)) (function (WithInit Binds)) refl (filled_told p q e n x (spelled_same s) (suits_told s n (Pat Assigns) (Pat Binds) x)) t h
suits_within (suits_rest s) n c d x f t h = node_told (function (RestPat Assigns)) (function (RestPat Binds)) refl (and_told (suits_told s n (Pat Assigns) (Pat Binds) (forth (pun "...") x)) (λ ds a. a)) t h
suits_within (suits_pair {k = k} s) n c d x f t h = node_told (function (PropertyPat Assigns)) (function (PropertyPat Binds)) refl (and_told (λ u g. g) (and_told (suits_told s n (PatElement Assigns) (PatElement Binds) (forth (pun ":") (scan x (spelled k)))) (λ ds a. a))) t h
suits_within suits_short n c d x f t h = node_told (function (ShorthandPat Assigns)) (function (ShorthandPat Binds)) refl (λ ds a. a) t h
suits_within suits_preset n c d x f t h = node_told (function (ShorthandInit Assigns)) (function (ShorthandInit Binds)) refl (λ ds a. a) t h
suits_within suits_others n c d x f t h = node_told (function (RestProperty Assigns)) (function (RestProperty Binds)) refl (λ ds a. a) t h

pub suits_placed : {d : Told} {p q : Tree} {x y : Here} → Suits p q → IsPlaced d p x y → IsPlaced d q x y
suits_placed {d} {p} {q} {x} {y} s l =
    let same = spelled_same s in
    let back : IsTrue (is_found (scan (place_of x) (spelled q))) → IsTrue (is_found (scan (place_of x) (spelled p))) = λ f. subst (λ ms. is_found (scan (place_of x) ms) ≡ true) (sym same) f in
    record {
      same = l.same;
      begins = λ ms text. ap (λ ns. from_first (ns ++ ms) text) (sym same) ∙ l.begins ms text;
      leads = λ f. ap (scan (place_of x)) (sym same) ∙ l.leads (back f);
      told = λ f c i. suits_told s x.end c c (place_of x) d (l.told (back f) c i);
      moved = λ e f c i lo next hi at h. suits_within s x.end c c (place_of x) (extent lo next hi) (spanned at d) (l.moved e (back f) c i lo next hi at h);
    }
