-- What stands in an array up to its `]`, of a literal's row and of that of the pattern that assigns: as a loop reads both (ECMA-262 sections 13.2.4 and 13.15.5). Of each row it keeps which trees the items so far may be; where they may be none, the row isn't read.
use Rattle.std.proofs.Common.{◌≡◌, ◌≤◌, Bool, true, false, List, [], ◌∷◌, refl, sym, ◌∙◌, ap, subst}
use Rattle.std.specs.Prelude.{IsTrue, codes}
use Rattle.jsx_base.specs.Token.{Punctuator, Elision, same}
use Rattle.jsx_tree.specs.Signs.{Sign, TrailingComma}
use Rattle.jsx_tree.specs.Kinds.{Tree, leaf, node, list, Forest, none, part}
use Rattle.jsx_tree.specs.Nonterminals.{Nonterminal}
use Rattle.jsx_tree.specs.Grammar.{Elisions, Fixed, Many, pun}
use Rattle.jsx_tree.specs.Form.{admits, is, is_last}
use Rattle.jsx_tree.specs.Spelling.{behind, between, spelled}
use Rattle.jsx_tree.specs.Reading.{Place, Lost, forth, scan}
use Rattle.jsx_tree.specs.StaticRules.{Surroundings}
use Rattle.jsx_tree.specs.Walk.{is_found, nothing, Piece, piece, Items, nil, last, more, sign, many, Walk, done, next, steady, Past}
use Rattle.jsx_tree.specs.Language.{Whole}
use Rattle.jsx_tree.specs.Answers.{Moves, Stuck, Missed, Only, Barred, OnlyRow, NoRow}
use Rattle.jsx_tree.specs.Faults.{Fault, Unread, Shallow, deepest}
use Rattle.jsx_tree.proofs.Tokens.{and_right, same_is}
use Rattle.jsx_tree.proofs.Apart.{never_both}
use Rattle.jsx_tree.proofs.Rows.Bridge.{found_first, found_at}
use Rattle.jsx_tree.proofs.Rows.Guarded.{whole_items_found}
use Rattle.jsx_tree.proofs.Rows.Laws.{end_found}
use Rattle.jsx_tree.proofs.Rows.Steps.{both}
use Rattle.jsx_tree.proofs.Rows.Turns.{cons, comma_trails, nothing_trails, prepend, prepend_cons, prepend_none, prepend_up}
use Rattle.jsx_tree.proofs.Depth.Shallow.{shallow_first, shallow_head, shallow_tail, shallow_up}
use Rattle.jsx_operand.specs.SoFar.{Staged, so_far}
use Rattle.jsx_token.specs.Stage.{in_stage}
use Rattle.jsx_token.specs.Marks.{ends_so_far}
use Rattle.jsx_operand.proofs.OfSoFar.{of_so_far}
use Rattle.jsx_operand.proofs.Homes.{no_list}
use Rattle.jsx_function.specs.Elements.{NoItem, is_hole}

abbrev pub hole : Tree
hole = leaf Elision []

-- what closes an array, and what stands behind its `[`
abbrev pub closing : List Piece
closing = piece [] (Fixed (pun "]")) ∷ []

abbrev pub inside : Nonterminal → List Piece
inside c = piece [] (Many Elisions c) ∷ closing

stuck_not : {s : Sign} {x : Place} → Stuck s x → IsTrue (is_found (forth s x)) → ⊥
stuck_not k f = let bad : IsTrue (is_found Lost) = subst (λ p. IsTrue (is_found p)) k.is f in cc

closing_found : {v : Surroundings} {x w : Place} {us : Forest} → Walk (Whole so_far) (steady v) closing x us w → IsTrue (is_found (forth (pun "]") x))
closing_found (next (sign e f) walk) = found_at e f

never_comma : (x : Place) → IsTrue (is_found (forth (pun ",") x)) → IsTrue (is_found (forth (pun "]") x)) → ⊥
never_comma x f g = never_both Punctuator Punctuator (codes ",") (codes "]") x refl f g

-- ---- a place of items: what is so of both

pub record Holed (c : Nonterminal) : Type 0 where
  pub home : is c hole ≡ true
  pub staged : in_stage c hole ≡ true
  pub comma_none : {v : Surroundings} {x : Place} → IsTrue (is_found (forth (pun ",") x)) → NoItem v c x Unread
  pub close_none : {v : Surroundings} {x : Place} → IsTrue (is_found (forth (pun "]") x)) → NoItem v c x Unread
  -- what only stands last has no comma behind it
  pub early : {v : Surroundings} {x y : Place} (t : Tree) → Staged v false c x t y → IsTrue (is_found (forth (pun ",") y)) → is_last t ≡ false
  pub comma_ends : (y : Place) → IsTrue (is_found (forth (pun ",") y)) → ends_so_far c y ≡ true
  pub close_ends : (y : Place) → IsTrue (is_found (forth (pun "]") y)) → ends_so_far c y ≡ true

-- before a comma
hole_there : {v : Surroundings} {c : Nonterminal} {x z : Place} → Holed c → Moves (pun ",") x z → Whole so_far v false c x hole x
hole_there {x = x} h m =
    let there : IsTrue (is_found (forth (pun ",") x)) = found_at (sym m.is) m.found in
    record { reads = record { reads = record { is = h.home; is_legal = refl; scans = refl; found = found_first (pun "," ∷ []) x there }; staged = h.staged }; ends_there = h.comma_ends x there }

record IsHole (u : Tree) (x z : Place) : Type 0 where
  tree : hole ≡ u
  place : x ≡ z

hole_is : {v : Surroundings} {c : Nonterminal} {x z : Place} (u : Tree) → is_hole u ≡ true → Whole so_far v false c x u z → IsHole u x z
hole_is {c = c} (leaf Elision t) h w = record { tree = ap (leaf Elision) (sym (same_is t [] (and_right (admits c (leaf Elision t)) _ w.reads.reads.is))); place = w.reads.reads.scans }
hole_is (leaf _ t) h w = cc
hole_is (node k ts) h w = cc
hole_is (list ts) h w = cc

behind_item : {v : Surroundings} {c : Nonterminal} {x y : Place} (t : Tree) → is_hole t ≡ false → Staged v false c x t y → behind Elisions (spelled t) ≡ TrailingComma ∷ []
behind_item (leaf Elision t) n r = cc
behind_item (leaf _ t) n r = refl
behind_item (node k ts) n r = refl
behind_item (list ts) n r = absurd (no_list r)

-- ---- which trees an item may be, and all items so far

-- of a place these trees and no others stand there, but a hole
pub record Fills (v : Surroundings) (c : Nonterminal) (x : Place) (P : Tree → Type 0) (y : Place) : Type 0 where
  pub reads : (t : Tree) → P t → Staged v false c x t y
  pub filled : (t : Tree) → P t → is_hole t ≡ false
  pub alone : (u : Tree) (z : Place) → is_hole u ≡ false → Whole so_far v false c x u z → P u × (y ≡ z)

-- what a row reads from its begin is one of these lists, with what it reads from the place
pub record KeptFrom (v : Surroundings) (ps : List Piece) (y : Place) (Q : Forest → Type 0) (us : Forest) (w : Place) : Type 0 where
  pub front : Forest
  pub among : Q front
  pub rest : Forest
  pub is : prepend front rest ≡ us
  pub walk : Walk (Whole so_far) (steady v) ps y rest w

pub record Kept (v : Surroundings) (ps : List Piece) (x : Place) (Q : Forest → Type 0) (y : Place) : Type 0 where
  pub to : (fs ts : Forest) (w : Place) → Q fs → Walk (Whole so_far) (steady v) ps y ts w → Walk (Whole so_far) (steady v) ps x (prepend fs ts) w
  pub from : (us : Forest) (w : Place) → Walk (Whole so_far) (steady v) ps x us w → KeptFrom v ps y Q us w

-- the whole of it
pub record EndsFrom (Q : Forest → Type 0) (us : Forest) : Type 0 where
  pub items : Forest
  pub among : Q items
  pub is : us ≡ part (list items) none

pub record Ends (v : Surroundings) (ps : List Piece) (x : Place) (Q : Forest → Type 0) (y : Place) : Type 0 where
  pub reads : (fs : Forest) → Q fs → Walk (Whole so_far) (steady v) ps x (part (list fs) none) y
  pub alone : (us : Forest) (z : Place) → Walk (Whole so_far) (steady v) ps x us z → EndsFrom Q us × (y ≡ z)

-- such a list with one of these trees more
pub record Split (Q : Forest → Type 0) (P : Tree → Type 0) (us : Forest) : Type 0 where
  pub front : Forest
  pub item : Tree
  pub before : Q front
  pub one : P item
  pub is : us ≡ both front (part item none)

pub record Longer (Q : Forest → Type 0) (P : Tree → Type 0) (R : Forest → Type 0) : Type 0 where
  pub join : (fs : Forest) (t : Tree) → Q fs → P t → R (both fs (part t none))
  pub split : (us : Forest) → R us → Split Q P us

pub kept_none : {v : Surroundings} {ps : List Piece} {x : Place} {Q : Forest → Type 0} → Q none → ((fs : Forest) → Q fs → fs ≡ none) → Kept v ps x Q x
kept_none {v} {ps} {x} q n = record {
  to = λ fs ts w p walk. subst (λ us. Walk (Whole so_far) (steady v) ps x us w) (prepend_none ts ∙ ap (λ gs. prepend gs ts) (sym (n fs p))) walk;
  from = λ us w walk. record { front = none; among = q; rest = us; is = sym (prepend_none us); walk = walk };
}

-- ---- one step: what stands there is an item and what stands behind it

pub record StepFrom (v : Surroundings) (ps : List Piece) (y : Place) (P : Tree → Type 0) (us : Forest) (w : Place) : Type 0 where
  pub item : Tree
  pub among : P item
  pub rest : Forest
  pub is : cons item rest ≡ us
  pub walk : Walk (Whole so_far) (steady v) ps y rest w

pub record Step (v : Surroundings) (ps : List Piece) (x : Place) (P : Tree → Type 0) (y : Place) : Type 0 where
  pub to : (t : Tree) (ts : Forest) (w : Place) → P t → Walk (Whole so_far) (steady v) ps y ts w → Walk (Whole so_far) (steady v) ps x (cons t ts) w
  pub from : (us : Forest) (w : Place) → Walk (Whole so_far) (steady v) ps x us w → StepFrom v ps y P us w

pub kept_step : {v : Surroundings} {ps : List Piece} {x y z : Place} {Q R : Forest → Type 0} {P : Tree → Type 0} → Longer Q P R → Kept v ps x Q y → Step v ps y P z → Kept v ps x R z
kept_step {v} {ps} {x} l k s = record {
  to = λ fs ts w r walk.
      let p = l.split fs r in
      subst (λ us. Walk (Whole so_far) (steady v) ps x us w) (prepend_cons p.front p.item ts ∙ ap (λ gs. prepend gs ts) (sym p.is)) (k.to p.front (cons p.item ts) w p.before (s.to p.item ts w p.one walk));
  from = λ us w walk.
      let f = k.from us w walk in
      let g = s.from f.rest w f.walk in
      record { front = both f.front (part g.item none); among = l.join f.front g.item f.among g.among; rest = g.rest; is = sym (prepend_cons f.front g.item g.rest) ∙ (ap (prepend f.front) g.is ∙ f.is); walk = g.walk };
}

pub kept_row : {v : Surroundings} {ps : List Piece} {x y : Place} {Q : Forest → Type 0} {e : Fault} → Kept v ps x Q y → NoRow so_far v ps y e → NoRow so_far v ps x e
kept_row {e = e} k n = record { no = λ us w walk s. let f = k.from us w walk in n.no f.rest w f.walk (shallow_upto e f.rest f.is (prepend_up f.front f.rest) s) }
  where
    shallow_upto : (e : Fault) {ws us : Forest} (vs : Forest) → ws ≡ us → deepest vs ≤ deepest ws → Shallow e (deepest us) → Shallow e (deepest vs)
    shallow_upto e {us = us} vs i le s = shallow_up e (deepest vs) (deepest us) (subst (λ ts. deepest vs ≤ deepest ts) i le) s

both_none : (ts : Forest) → both ts none ≡ ts
both_none none = refl
both_none (part t ts) = ap (part t) (both_none ts)

-- nothing more stands behind the items so far
pub kept_shut : {v : Surroundings} {ps : List Piece} {x y z : Place} {Q : Forest → Type 0} → Kept v ps x Q y → OnlyRow so_far v ps y (part (list none) none) z → Ends v ps x Q z
kept_shut {v} {ps} {x} {z = z} k o = record {
  reads = λ fs q. subst (λ gs. Walk (Whole so_far) (steady v) ps x (part (list gs) none) z) (both_none fs) (k.to fs (part (list none) none) z q o.walk);
  alone = λ us w walk.
      let f = k.from us w walk in
      let e = o.alone f.rest w f.walk in
      (record { items = f.front; among = f.among; is = sym f.is ∙ (ap (prepend f.front) (sym e.0) ∙ ap (λ gs. part (list gs) none) (both_none f.front)) }, e.1);
}

-- and one more does
pub record LastFrom (P : Tree → Type 0) (us : Forest) : Type 0 where
  pub item : Tree
  pub among : P item
  pub is : us ≡ part (list (part item none)) none

pub record Lasts (v : Surroundings) (ps : List Piece) (x : Place) (P : Tree → Type 0) (y : Place) : Type 0 where
  pub reads : (t : Tree) → P t → Walk (Whole so_far) (steady v) ps x (part (list (part t none)) none) y
  pub alone : (us : Forest) (z : Place) → Walk (Whole so_far) (steady v) ps x us z → LastFrom P us × (y ≡ z)

pub kept_last : {v : Surroundings} {ps : List Piece} {x y z : Place} {Q R : Forest → Type 0} {P : Tree → Type 0} → Longer Q P R → Kept v ps x Q y → Lasts v ps y P z → Ends v ps x R z
kept_last {v} {ps} {x} {z = z} l k o = record {
  reads = λ fs r.
      let p = l.split fs r in
      subst (λ gs. Walk (Whole so_far) (steady v) ps x (part (list gs) none) z) (sym p.is) (k.to p.front (part (list (part p.item none)) none) z p.before (o.reads p.item p.one));
  alone = λ us w walk.
      let f = k.from us w walk in
      let e = o.alone f.rest w f.walk in
      (record { items = both f.front (part e.0.item none); among = l.join f.front e.0.item f.among e.0.among; is = sym f.is ∙ ap (prepend f.front) e.0.is }, e.1);
}

-- ---- where neither a comma nor the `]` stands

data FirstItem (v : Surroundings) (c : Nonterminal) (x : Place) : Forest → Place → Type 0 where
  first_last : {t : Tree} {y p w : Place} {vs : Forest} → is_hole t ≡ false → Whole so_far v false c x t y → scan y (behind Elisions (spelled t)) ≡ p → IsTrue (is_found p) → Walk (Whole so_far) (steady v) closing p vs w → FirstItem v c x (part (list (part t none)) vs) w
  first_more : {t u : Tree} {us vs : Forest} {y z p w : Place} → is_hole t ≡ false → Whole so_far v false c x t y → scan y (between Elisions) ≡ z → Items (Whole so_far) v Elisions c z (part u us) p → Walk (Whole so_far) (steady v) closing p vs w → FirstItem v c x (part (list (part t (part u us))) vs) w

first_item : {v : Surroundings} {c : Nonterminal} {x : Place} → Stuck (pun ",") x → Stuck (pun "]") x → (us : Forest) (w : Place) → Walk (Whole so_far) (steady v) (inside c) x us w → FirstItem v c x us w
first_item {v} {c} {x} k s us w (next {ts = vs} (many {ts = ts} e all) walk) = inner ts _ all vs w walk
  where
    by_last : (b : Bool) {y p w : Place} {t : Tree} {vs : Forest} → is_hole t ≡ b → Whole so_far v false c x t y → scan y (behind Elisions (spelled t)) ≡ p → IsTrue (is_found p) → Walk (Whole so_far) (steady v) closing p vs w → FirstItem v c x (part (list (part t none)) vs) w
    by_last true {y} {p} {t = t} h r e f walk =
        let q = hole_is t h r in
        let is : forth (pun ",") x ≡ p = (λ i. scan (q.place i) (behind Elisions (spelled (q.tree i)))) ∙ e in
        absurd (stuck_not k (found_at is f))
    by_last false h r e f walk = first_last h r e f walk

    by_more : (b : Bool) {y z p w : Place} {t u : Tree} {us vs : Forest} → is_hole t ≡ b → Whole so_far v false c x t y → scan y (between Elisions) ≡ z → Items (Whole so_far) v Elisions c z (part u us) p → Walk (Whole so_far) (steady v) closing p vs w → FirstItem v c x (part (list (part t (part u us))) vs) w
    by_more true {y} {z} {t = t} h r e all walk =
        let q = hole_is t h r in
        let is : forth (pun ",") x ≡ z = (λ i. scan (q.place i) (between Elisions)) ∙ e in
        absurd (stuck_not k (found_at is (whole_items_found of_so_far all)))
    by_more false h r e all walk = first_more h r e all walk

    inner : (ts : Forest) (p : Place) → Items (Whole so_far) v Elisions c x ts p → (us : Forest) (w : Place) → Walk (Whole so_far) (steady v) closing p us w → FirstItem v c x (part (list ts) us) w
    inner ts p (nil f) us w walk = absurd (stuck_not s (closing_found walk))
    inner ts p (last {t = t} r e f) us w walk = by_last (is_hole t) refl r e f walk
    inner ts p (more {t = t} n r e all) us w walk = by_more (is_hole t) refl r e all walk

-- ---- a hole and its comma

abbrev pub IsGap : Tree → Type 0
IsGap t = hole ≡ t

hole_step : {v : Surroundings} {c : Nonterminal} {x z : Place} → Holed c → Moves (pun ",") x z → Step v (inside c) x IsGap z
hole_step {v} {c} {x} {z} h m = record { to = forward; from = back }
  where
    there : IsTrue (is_found (forth (pun ",") x))
    there = found_at (sym m.is) m.found

    ahead : (ts : Forest) (p : Place) → Items (Whole so_far) v Elisions c z ts p → Items (Whole so_far) v Elisions c x (part hole ts) p
    ahead none p (nil f) = last (hole_there h m) (sym m.is) m.found
    ahead (part u none) p all = more refl (hole_there h m) (sym m.is) all
    ahead (part u (part u' us)) p all = more refl (hole_there h m) (sym m.is) all

    onward : (ts : Forest) (w : Place) → Walk (Whole so_far) (steady v) (inside c) z ts w → Walk (Whole so_far) (steady v) (inside c) x (cons hole ts) w
    onward ts w (next {ts = vs} (many {ts = us} e all) walk) = next (many refl (ahead us _ all)) walk

    forward : (t : Tree) (ts : Forest) (w : Place) → IsGap t → Walk (Whole so_far) (steady v) (inside c) z ts w → Walk (Whole so_far) (steady v) (inside c) x (cons t ts) w
    forward t ts w g walk = subst (λ u. Walk (Whole so_far) (steady v) (inside c) x (cons u ts) w) g (onward ts w walk)

    by_last : (b : Bool) {y p : Place} {t : Tree} → is_hole t ≡ b → Whole so_far v false c x t y → scan y (behind Elisions (spelled t)) ≡ p → (us : Forest) (w : Place) → Walk (Whole so_far) (steady v) closing p us w → StepFrom v (inside c) z IsGap (part (list (part t none)) us) w
    by_last true {y} {p} {t} b r e us w walk =
        let q = hole_is t b r in
        let is : z ≡ p = m.is ∙ ((λ i. scan (q.place i) (behind Elisions (spelled (q.tree i)))) ∙ e) in
        record { item = hole; among = refl; rest = part (list none) us; is = λ i. part (list (part (q.tree i) none)) us; walk = next (many refl (nil m.found)) (subst (λ p. Walk (Whole so_far) (steady v) closing p us w) (sym is) walk) }
    by_last false {y} {t = t} b r e us w walk = absurd ((h.comma_none there).no t y b r tt)

    by_more : (b : Bool) {y z' p : Place} {t u : Tree} {vs : Forest} → is_hole t ≡ b → Whole so_far v false c x t y → scan y (between Elisions) ≡ z' → Items (Whole so_far) v Elisions c z' (part u vs) p → (us : Forest) (w : Place) → Walk (Whole so_far) (steady v) closing p us w
        → StepFrom v (inside c) z IsGap (part (list (part t (part u vs))) us) w
    by_more true {y} {z'} {p} {t} {u} {vs} b r e all us w walk =
        let q = hole_is t b r in
        let is : z ≡ z' = m.is ∙ ((λ i. scan (q.place i) (between Elisions)) ∙ e) in
        record { item = hole; among = refl; rest = part (list (part u vs)) us; is = λ i. part (list (part (q.tree i) (part u vs))) us; walk = next (many refl (subst (λ q. Items (Whole so_far) v Elisions c q (part u vs) p) (sym is) all)) walk }
    by_more false {y} {t = t} b r e all us w walk = absurd ((h.comma_none there).no t y b r tt)

    inner : (ts : Forest) (p : Place) → Items (Whole so_far) v Elisions c x ts p → (us : Forest) (w : Place) → Walk (Whole so_far) (steady v) closing p us w → StepFrom v (inside c) z IsGap (part (list ts) us) w
    inner ts p (nil f) us w walk = absurd (never_comma x there (closing_found walk))
    inner ts p (last {t = t} r e f) us w walk = by_last (is_hole t) refl r e us w walk
    inner ts p (more {t = t} n r e all) us w walk = by_more (is_hole t) refl r e all us w walk

    back : (us : Forest) (w : Place) → Walk (Whole so_far) (steady v) (inside c) x us w → StepFrom v (inside c) z IsGap us w
    back us w (next {ts = vs} (many {ts = ts} e all) walk) = inner ts _ all vs w walk

-- ---- an item and a comma

-- neither the `]` nor a comma stands before it
pub record Before (v : Surroundings) (c : Nonterminal) (x : Place) (P : Tree → Type 0) (y : Place) : Type 0 where
  pub item : Fills v c x P y
  pub no_comma : Stuck (pun ",") x
  pub no_close : Stuck (pun "]") x

pub before : {v : Surroundings} {c : Nonterminal} {x x' x'' y : Place} {P : Tree → Type 0} → Missed (pun "]") x x' → Missed (pun ",") x' x'' → Fills v c x'' P y → Before v c x P y
before {v} {c} {y = y} {P = P} m n o = record {
  item = subst (λ p. Fills v c p P y) (sym (m.same ∙ n.same)) o;
  no_comma = subst (Stuck (pun ",")) (sym m.same) n.stuck;
  no_close = m.stuck;
}

pub trails : {v : Surroundings} {c : Nonterminal} {x y w : Place} {P : Tree → Type 0} (t : Tree) → Fills v c x P y → P t → forth TrailingComma y ≡ w → scan y (behind Elisions (spelled t)) ≡ w
trails {y = y} t o q e = ap (scan y) (behind_item t (o.filled t q) (o.reads t q)) ∙ e

filled_step : {v : Surroundings} {c : Nonterminal} {x y z : Place} {P : Tree → Type 0} → Holed c → Before v c x P y → Moves (pun ",") y z → Step v (inside c) x P z
filled_step {v} {c} {x} {y} {z} {P} h b m = record { to = forward; from = λ us w walk. back (first_item b.no_comma b.no_close us w walk) }
  where
    there : IsTrue (is_found (forth (pun ",") y))
    there = found_at (sym m.is) m.found

    whole : (t : Tree) → P t → Whole so_far v false c x t y
    whole t q = record { reads = b.item.reads t q; ends_there = h.comma_ends y there }

    ahead : (t : Tree) → P t → (ts : Forest) (p : Place) → Items (Whole so_far) v Elisions c z ts p → Items (Whole so_far) v Elisions c x (part t ts) p
    ahead t q none p (nil f) = last (whole t q) (trails t b.item q (comma_trails m)) m.found
    ahead t q (part u none) p all = more (h.early t (b.item.reads t q) there) (whole t q) (sym m.is) all
    ahead t q (part u (part u' us)) p all = more (h.early t (b.item.reads t q) there) (whole t q) (sym m.is) all

    forward : (t : Tree) (ts : Forest) (w : Place) → P t → Walk (Whole so_far) (steady v) (inside c) z ts w → Walk (Whole so_far) (steady v) (inside c) x (cons t ts) w
    forward t ts w q (next {ts = vs} (many {ts = us} e all) walk) = next (many refl (ahead t q us _ all)) walk

    back : {us : Forest} {w : Place} → FirstItem v c x us w → StepFrom v (inside c) z P us w
    back {w = w} (first_last {t = t} {y = y'} {p = p} {vs = vs} n r e f walk) =
        let s = b.item.alone t y' n r in
        let is : z ≡ p = sym (trails t b.item s.0 (comma_trails m)) ∙ (ap (λ a. scan a (behind Elisions (spelled t))) s.1 ∙ e) in
        record { item = t; among = s.0; rest = part (list none) vs; is = refl; walk = next (many refl (nil m.found)) (subst (λ p. Walk (Whole so_far) (steady v) closing p vs w) (sym is) walk) }
    back {w = w} (first_more {t = t} {u} {us} {vs} {y = y'} {z = z'} {p = p} n r e all walk) =
        let s = b.item.alone t y' n r in
        let is : z ≡ z' = m.is ∙ (ap (λ a. scan a (between Elisions)) s.1 ∙ e) in
        record { item = t; among = s.0; rest = part (list (part u us)) vs; is = refl; walk = next (many refl (subst (λ q. Items (Whole so_far) v Elisions c q (part u us) p) (sym is) all)) walk }

-- ---- the last item, with no comma behind it

-- whatever is read there is this one and the bracket
record EndFrom (v : Surroundings) (y : Place) (P : Tree → Type 0) (us : Forest) (w : Place) : Type 0 where
  item : Tree
  among : P item
  rest : Forest
  is : us ≡ part (list (part item none)) rest
  walk : Walk (Whole so_far) (steady v) closing y rest w

end_from : {v : Surroundings} {c : Nonterminal} {x y : Place} {P : Tree → Type 0} → Before v c x P y → Stuck (pun ",") y → (us : Forest) (w : Place) → Walk (Whole so_far) (steady v) (inside c) x us w → EndFrom v y P us w
end_from {v} {c} {x} {y} {P} b n us w walk = at (first_item b.no_comma b.no_close us w walk)
  where
    at : {us : Forest} {w : Place} → FirstItem v c x us w → EndFrom v y P us w
    at {w = w} (first_last {t = t} {y = y'} {p = p} {vs = vs} k r e f walk) =
        let s = b.item.alone t y' k r in
        let is : y ≡ p = sym (trails t b.item s.0 (nothing_trails y n)) ∙ (ap (λ a. scan a (behind Elisions (spelled t))) s.1 ∙ e) in
        record { item = t; among = s.0; rest = vs; is = refl; walk = subst (λ p. Walk (Whole so_far) (steady v) closing p vs w) (sym is) walk }
    at (first_more {t = t} {y = y'} {z = z'} k r e all walk) =
        let s = b.item.alone t y' k r in
        let is : forth (pun ",") y ≡ z' = ap (λ a. scan a (between Elisions)) s.1 ∙ e in
        absurd (stuck_not n (found_at is (whole_items_found of_so_far all)))

closed_only : {v : Surroundings} {x w : Place} {us : Forest} {z : Place} → Moves (pun "]") x z → Walk (Whole so_far) (steady v) closing x us w → (us ≡ none) × (z ≡ w)
closed_only m (next (sign e f) (done g)) = (refl, m.is ∙ e)

filled_last : {v : Surroundings} {c : Nonterminal} {x y z : Place} {P : Tree → Type 0} → Holed c → Before v c x P y → Stuck (pun ",") y → Moves (pun "]") y z → Lasts v (inside c) x P z
filled_last {v} {c} {x} {y} {z} {P} h b n m = record {
  reads = λ t q. next (many refl (last (record { reads = b.item.reads t q; ends_there = h.close_ends y (found_at (sym m.is) m.found) }) (trails t b.item q (nothing_trails y n)) (end_found of_so_far (b.item.reads t q)))) (next (sign (sym m.is) m.found) (done m.found));
  alone = λ us w walk.
      let f = end_from b n us w walk in
      let e = closed_only m f.walk in
      (record { item = f.item; among = f.among; is = f.is ∙ ap (part (list (part f.item none))) e.0 }, e.1);
}

-- ---- where nothing more stands

shut_only : {v : Surroundings} {c : Nonterminal} {x z : Place} → Holed c → Moves (pun "]") x z → OnlyRow so_far v (inside c) x (part (list none) none) z
shut_only {v} {c} {x} {z} h m = record { walk = next (many refl (nil (found_first (pun "]" ∷ []) x there))) (next (sign (sym m.is) m.found) (done m.found)); alone = back }
  where
    there : IsTrue (is_found (forth (pun "]") x))
    there = found_at (sym m.is) m.found

    by_last : (b : Bool) {y p : Place} {t : Tree} {A : Type 0} → is_hole t ≡ b → Whole so_far v false c x t y → scan y (behind Elisions (spelled t)) ≡ p → IsTrue (is_found p) → A
    by_last true {y} {p} {t} b r e f =
        let q = hole_is t b r in
        let is : forth (pun ",") x ≡ p = (λ i. scan (q.place i) (behind Elisions (spelled (q.tree i)))) ∙ e in
        absurd (never_comma x (found_at is f) there)
    by_last false {y} {t = t} b r e f = absurd ((h.close_none there).no t y b r tt)

    by_more : (b : Bool) {y z' p : Place} {t u : Tree} {vs : Forest} {A : Type 0} → is_hole t ≡ b → Whole so_far v false c x t y → scan y (between Elisions) ≡ z' → Items (Whole so_far) v Elisions c z' (part u vs) p → A
    by_more true {y} {z'} {t = t} b r e all =
        let q = hole_is t b r in
        let is : forth (pun ",") x ≡ z' = (λ i. scan (q.place i) (between Elisions)) ∙ e in
        absurd (never_comma x (found_at is (whole_items_found of_so_far all)) there)
    by_more false {y} {t = t} b r e all = absurd ((h.close_none there).no t y b r tt)

    inner : (ts : Forest) (p : Place) → Items (Whole so_far) v Elisions c x ts p → (us : Forest) (w : Place) → Walk (Whole so_far) (steady v) closing p us w → (part (list none) none ≡ part (list ts) us) × (z ≡ w)
    inner ts p (nil f) us w walk = let e = closed_only m walk in (ap (part (list none)) (sym e.0), e.1)
    inner ts p (last {t = t} r e f) us w walk = by_last (is_hole t) refl r e f
    inner ts p (more {t = t} n r e all) us w walk = by_more (is_hole t) refl r e all

    back : (us : Forest) (w : Place) → Walk (Whole so_far) (steady v) (inside c) x us w → (part (list none) none ≡ us) × (z ≡ w)
    back us w (next {ts = vs} (many {ts = ts} e all) walk) = inner ts _ all vs w walk

-- what doesn't belong there
none_only : {v : Surroundings} {c : Nonterminal} {x : Place} {o : Fault} → NoItem v c x o → Stuck (pun ",") x → Stuck (pun "]") x → NoRow so_far v (inside c) x o
none_only {v} {c} {x} {o = o} b k s = record { no = λ us w walk h. at (first_item k s us w walk) h }
  where
    at : {us : Forest} {w : Place} → FirstItem v c x us w → Shallow o (deepest us) → ⊥
    at (first_last {t = t} {y = y} {vs = vs} n r e f walk) a = b.no t y n r (shallow_head o t none (shallow_head o (list (part t none)) vs a))
    at (first_more {t = t} {u = u} {us = us} {vs = vs} {y = y} n r e all walk) a = b.no t y n r (shallow_head o t (part u us) (shallow_head o (list (part t (part u us))) vs a))

-- ---- the steps of the loop

pub hole_more : {v : Surroundings} {c : Nonterminal} {x y y' w : Place} {Q R : Forest → Type 0} → Holed c → Longer Q IsGap R → Kept v (inside c) x Q y → Missed (pun "]") y y' → Moves (pun ",") y' w → Kept v (inside c) x R w
hole_more {w = w} h l k n m = kept_step l k (hole_step h (subst (λ p. Moves (pun ",") p w) (sym n.same) m))

pub filled_more : {v : Surroundings} {c : Nonterminal} {x y z w : Place} {Q R : Forest → Type 0} {P : Tree → Type 0} → Holed c → Longer Q P R → Kept v (inside c) x Q y → Before v c y P z → Moves (pun ",") z w → Kept v (inside c) x R w
filled_more h l k b m = kept_step l k (filled_step h b m)

pub shut : {v : Surroundings} {c : Nonterminal} {x y z : Place} {Q : Forest → Type 0} → Holed c → Kept v (inside c) x Q y → Moves (pun "]") y z → Ends v (inside c) x Q z
shut h k m = kept_shut k (shut_only h m)

pub none_here : {v : Surroundings} {c : Nonterminal} {x y y' y'' : Place} {Q : Forest → Type 0} {e : Fault} → Kept v (inside c) x Q y → Missed (pun "]") y y' → Missed (pun ",") y' y'' → NoItem v c y'' e → NoRow so_far v (inside c) x e
none_here {v} {c} {e = e} k m n b = kept_row k (none_only (subst (λ w. NoItem v c w e) (sym (m.same ∙ n.same)) b) (subst (Stuck (pun ",")) (sym m.same) n.stuck) m.stuck)

pub shut_behind : {v : Surroundings} {c : Nonterminal} {x y z z' w : Place} {Q R : Forest → Type 0} {P : Tree → Type 0} → Holed c → Longer Q P R → Kept v (inside c) x Q y → Before v c y P z → Missed (pun ",") z z' → Only so_far v (Fixed (pun "]")) z' nothing w → Ends v (inside c) x R w
shut_behind {v} {z = z} {z'} {w} h l k b n o = kept_last l k (filled_last h b n.stuck (subst (λ p. Moves (pun "]") p w) (sym n.same) (at o.past)))
  where
    at : {p : Place} → Past (Whole so_far) v (Fixed (pun "]")) p nothing w → Moves (pun "]") p w
    at (sign e f) = record { is = sym e; found = f }

pub unshut : {v : Surroundings} {c : Nonterminal} {x y z z' : Place} {Q : Forest → Type 0} {P : Tree → Type 0} {e : Fault} → Kept v (inside c) x Q y → Before v c y P z → Missed (pun ",") z z' → Barred so_far v (Fixed (pun "]")) z' e → NoRow so_far v (inside c) x e
unshut {v} {z = z} {e = e} k b n s = kept_row k (record { no = λ us w walk h. let f = end_from b n.stuck us w walk in at f.walk (shallow_tail e (list (part f.item none)) f.rest (subst (λ ts. Shallow e (deepest ts)) f.is h)) })
  where
    here : Barred so_far v (Fixed (pun "]")) z e
    here = subst (λ w. Barred so_far v (Fixed (pun "]")) w e) (sym n.same) s

    at : {us : Forest} {w : Place} → Walk (Whole so_far) (steady v) closing z us w → Shallow e (deepest us) → ⊥
    at (next {g = g'} {ts = us'} q walk) s = here.no _ _ q (shallow_first e g' us' s)
