-- What stands in an array's pattern, up to its `]`: as a loop of the parser reads it, by slots and holes (ECMA-262 section 14.3.3). A pattern without a default is read too before what goes on with an expression, so it is what stands behind a slot that tells.
use Rattle.std.proofs.Common.{◌≡◌, Bool, true, false, List, [], ◌∷◌, refl, sym, ◌∙◌, ap, subst}
use Rattle.std.specs.Prelude.{IsTrue, codes}
use Rattle.jsx_base.specs.Token.{Text, Operator, Punctuator, Elision, same}
use Rattle.jsx_tree.specs.Signs.{Sign, Tok, TrailingComma}
use Rattle.jsx_tree.specs.Kinds.{Binds, RestPat, WithInit, function, Tree, leaf, node, list, Forest, none, part}
use Rattle.jsx_tree.specs.Nonterminals.{Slot}
use Rattle.jsx_tree.specs.Grammar.{Elisions, Fixed, Many, pun}
use Rattle.jsx_tree.specs.Form.{admits, is_last}
use Rattle.jsx_tree.specs.Spelling.{behind, between, spelled}
use Rattle.jsx_tree.specs.Reading.{Place, Lost, forth, scan}
use Rattle.jsx_tree.specs.StaticRules.{Surroundings}
use Rattle.jsx_tree.specs.Walk.{is_found, nothing, Piece, piece, Items, nil, last, more, sign, many, Walk, next, steady, tail, Past, one}
use Rattle.jsx_tree.specs.Language.{Whole}
use Rattle.jsx_tree.specs.Answers.{Moves, Stuck, Missed, Only, Barred, OnlyRow, NoRow, Built}
use Rattle.jsx_tree.specs.Faults.{Fault, Shallow, part_depth, deepest, Unread}
use Rattle.jsx_tree.proofs.Tokens.{and_both, and_right, same_is}
use Rattle.jsx_tree.proofs.Apart.{never_both}
use Rattle.jsx_tree.proofs.Rows.Bridge.{found_first, found_at}
use Rattle.jsx_tree.proofs.Rows.Guarded.{whole_walk, whole_items_found, loosen, to_grammar}
use Rattle.jsx_tree.proofs.Rows.Bodies.{plain as plain_row}
use Rattle.jsx_tree.proofs.Rows.Placing.{free_around, moved, node_shallow}
use Rattle.jsx_tree.proofs.Rows.Laws.{end_found}
use Rattle.jsx_tree.proofs.Rows.Lists.{closed, ended_sign}
use Rattle.jsx_tree.proofs.Rows.Steps.{bar, both}
use Rattle.jsx_tree.proofs.Rows.Stopping.{token_stops}
use Rattle.jsx_tree.proofs.Rows.Turns.{From, Turn, turn_only, turn_none, turn_as, turn_both, cons, comma_trails, nothing_trails, prepend, prepend_cons, cons_up}
use Rattle.jsx_tree.proofs.Depth.Shallow.{shallow_first, shallow_rest, part_up, shallow_head}
use Rattle.jsx_function.proofs.Functions.{shallow_behind}
use Rattle.jsx_operand.specs.SoFar.{Staged, so_far}
use Rattle.jsx_function.specs.Elements.{NoItem, is_hole}
use Rattle.jsx_operand.proofs.OfSoFar.{of_so_far}
use Rattle.jsx_operand.proofs.Homes.{no_list}
use Rattle.jsx_operand.proofs.Patterns.{pattern_early, pattern_unmarked, unresting}
use Rattle.jsx_operand.proofs.Climbing.{signed_built, signed_none}
use Rattle.jsx_token.specs.Marks.{ends_so_far}
use Rattle.jsx_function.specs.Patterns.{IsElement, NoElement, OnlySlot}
use Rattle.jsx_function.proofs.Defaults.{AtDefault, pattern, valued, rest, hole as gap, at_default, rest_led, rest_row, unled, value_whole}
use Rattle.jsx_function.proofs.Params.{rest_guard}

abbrev pub hole : Tree
hole = leaf Elision []

-- what closes an array, and what stands behind its `[`
abbrev closing : List Piece
closing = piece [] (Fixed (pun "]")) ∷ []

abbrev inside : List Piece
inside = piece [] (Many Elisions (Slot Binds)) ∷ closing

stuck_not : {s : Sign} {x : Place} → Stuck s x → IsTrue (is_found (forth s x)) → ⊥
stuck_not k f = let bad : IsTrue (is_found Lost) = subst (λ p. IsTrue (is_found p)) k.is f in cc

closing_found : {v : Surroundings} {x w : Place} {us : Forest} → Walk (Whole so_far) (steady v) closing x us w → IsTrue (is_found (forth (pun "]") x))
closing_found (next (sign e f) walk) = found_at e f

never_comma : (x : Place) → IsTrue (is_found (forth (pun ",") x)) → IsTrue (is_found (forth (pun "]") x)) → ⊥
never_comma x f g = never_both Punctuator Punctuator (codes ",") (codes "]") x refl f g

-- ---- a hole, and what is none

-- before a comma
hole_there : {v : Surroundings} {x z : Place} → Moves (pun ",") x z → Whole so_far v false (Slot Binds) x hole x
hole_there {x = x} m = record {
  reads = record { reads = record { is = refl; is_legal = refl; scans = refl; found = found_first (pun "," ∷ []) x (found_at (sym m.is) m.found) }; staged = refl };
  ends_there = of_so_far.ends_there (Slot Binds) x (token_stops (Slot Binds) Punctuator 44 [] x refl (found_at (sym m.is) m.found));
}

record IsHole (u : Tree) (x z : Place) : Type 0 where
  tree : hole ≡ u
  place : x ≡ z

hole_is : {v : Surroundings} {x z : Place} (u : Tree) → is_hole u ≡ true → Whole so_far v false (Slot Binds) x u z → IsHole u x z
hole_is (leaf Elision t) h w = record { tree = ap (leaf Elision) (sym (same_is t [] (and_right (admits (Slot Binds) (leaf Elision t)) _ w.reads.reads.is))); place = w.reads.reads.scans }
hole_is (leaf _ t) h w = cc
hole_is (node k ts) h w = cc
hole_is (list ts) h w = cc

behind_item : {v : Surroundings} {x y : Place} (t : Tree) → is_hole t ≡ false → Staged v false (Slot Binds) x t y → behind Elisions (spelled t) ≡ TrailingComma ∷ []
behind_item (leaf Elision t) n r = cc
behind_item (leaf _ t) n r = refl
behind_item (node k ts) n r = refl
behind_item (list ts) n r = absurd (no_list r)

pub trails : {v : Surroundings} {x z w : Place} {t : Tree} (y : Place) → OnlySlot v x t z → forth TrailingComma y ≡ w → scan y (behind Elisions (spelled t)) ≡ w
trails {t = t} y o e = ap (scan y) (behind_item t o.filled o.reads) ∙ e

whole_before : {v : Surroundings} {x y : Place} {t : Tree} → OnlySlot v x t y → ends_so_far (Slot Binds) y ≡ true → Whole so_far v false (Slot Binds) x t y
whole_before o e = record { reads = o.reads; ends_there = e }

comma_ends : (y : Place) → IsTrue (is_found (forth (pun ",") y)) → ends_so_far (Slot Binds) y ≡ true
comma_ends y f = of_so_far.ends_there (Slot Binds) y (token_stops (Slot Binds) Punctuator 44 [] y refl f)

close_ends : (y : Place) → IsTrue (is_found (forth (pun "]") y)) → ends_so_far (Slot Binds) y ≡ true
close_ends y f = of_so_far.ends_there (Slot Binds) y (token_stops (Slot Binds) Punctuator 93 [] y refl f)

-- no comma stands behind a rest
not_last : {v : Surroundings} {x y : Place} {t : Tree} → OnlySlot v x t y → IsTrue (is_found (forth (pun ",") y)) → is_last t ≡ false
not_last {v} {x} {y} {t} o c = at (at_default (Slot Binds) t refl o.reads) o.reads
  where
    at : {u : Tree} → AtDefault v x y u → Staged v false (Slot Binds) x u y → is_last u ≡ false
    at {u} (pattern r) q = pattern_early u r
    at valued q = refl
    at (rest {ts}) q = absurd (rest_guard {us = ts} (of_so_far.from_node (function (RestPat Binds)) q).walk c)
    at gap q = refl

-- where another mark stands, none does but a hole
unmarked : {v : Surroundings} {x z : Place} {u : Tree} (d : Text) → same (codes "...") d ≡ false → same (codes "[") d ≡ false → same (codes "{") d ≡ false → IsTrue (is_found (forth (Tok Operator Punctuator d) x)) → is_hole u ≡ false → Whole so_far v false (Slot Binds) x u z → ⊥
unmarked {v} {x} {z} {u} d m k l f h w = at h (at_default (Slot Binds) u refl w.reads) w
  where
    at : {t : Tree} → is_hole t ≡ false → AtDefault v x z t → Whole so_far v false (Slot Binds) x t z → ⊥
    at {t} h (pattern r) q = pattern_unmarked t d k l r f
    at h valued q = unled d k l (value_whole (Slot Binds) refl q) f
    at h rest q = never_both Punctuator Punctuator (codes "...") d x m (rest_led q.reads) f
    at h gap q = cc

comma_no_item : {v : Surroundings} {x : Place} {e : Fault} → IsTrue (is_found (forth (pun ",") x)) → NoItem v (Slot Binds) x e
comma_no_item f = record { no = λ u z h w s. unmarked (codes ",") refl refl refl f h w }

close_no_item : {v : Surroundings} {x : Place} {e : Fault} → IsTrue (is_found (forth (pun "]") x)) → NoItem v (Slot Binds) x e
close_no_item f = record { no = λ u z h w s. unmarked (codes "]") refl refl refl f h w }

-- ---- a slot that was read

rest_whole : {v : Surroundings} {x z : Place} {ts : Forest} → Whole so_far v false (Slot Binds) x (node (function (RestPat Binds)) ts) z → Walk (Whole so_far) (steady v) rest_row x ts z
rest_whole {v} {ts = ts} w = moved (λ a h. free_around a ts v h) refl (whole_walk of_so_far (Slot Binds) rest_row refl w.ends_there (of_so_far.from_node (function (RestPat Binds)) w.reads).walk)

pub element_slot : {v : Surroundings} {x x' y : Place} {t : Tree} → Missed (pun "...") x x' → IsElement v x' t y → OnlySlot v x t y
element_slot {v} {y = y} {t} m o = subst (λ p. OnlySlot v p t y) (sym m.same) (o.on (Slot Binds) refl)

pub no_slot : {v : Surroundings} {x x' : Place} {e : Fault} → Missed (pun "...") x x' → NoElement v x' e → NoItem v (Slot Binds) x e
no_slot {v} {x} {e = e} m given = record { no = λ u z h w a. at h (at_default (Slot Binds) u refl w.reads) w a }
  where
    n : NoElement v x e
    n = subst (λ w. NoElement v w e) (sym m.same) given

    at : {u : Tree} {z : Place} → is_hole u ≡ false → AtDefault v x z u → Whole so_far v false (Slot Binds) x u z → Shallow e (part_depth u) → ⊥
    at {u} {z} h (pattern r) w s = n.no (Slot Binds) refl u z h (unresting u r) w s
    at {z = z} h (valued {ts}) w s = n.no (Slot Binds) refl (node (function (WithInit Binds)) ts) z refl refl w s
    at h rest w s = stuck_not m.stuck (rest_led w.reads)
    at h gap w s = cc

pub rest_slot : {v : Surroundings} {x a y : Place} {t : Tree} → Moves (pun "...") x a → Built so_far v (tail rest_row) (function (RestPat Binds)) (λ ts. ts) t a y → OnlySlot v x t y
rest_slot {v} {x} {a} {y} {t} m b = record {
  reads = subst (λ u. Staged v false (Slot Binds) x u y) (sym w.is) (of_so_far.to_node (function (RestPat Binds)) refl (record { walk = loosen (moved (λ c h. sym (free_around c w.parts v h)) refl w.row.walk); keeps = and_both _ _ (plain_row rest_row refl (to_grammar of_so_far w.row.walk)) refl }));
  filled = ap is_hole w.is;
  alone = λ u p h q. at h (at_default (Slot Binds) u refl q.reads) q;
}
  where
    w : Built so_far v rest_row (function (RestPat Binds)) (λ ts. ts) t x y
    w = signed_built rest_row refl m b

    there : IsTrue (is_found (forth (pun "...") x))
    there = found_at (sym m.is) m.found

    at : {u : Tree} {p : Place} → is_hole u ≡ false → AtDefault v x p u → Whole so_far v false (Slot Binds) x u p → (t ≡ u) × (y ≡ p)
    at {u} h (pattern r) q = absurd (pattern_unmarked u (codes "...") refl refl r there)
    at h valued q = absurd (unled (codes "...") refl refl (value_whole (Slot Binds) refl q) there)
    at {p = p} h (rest {ts}) q = let e = w.row.alone ts p (rest_whole q) in (w.is ∙ ap (node (function (RestPat Binds))) e.0, e.1)
    at h gap q = cc

pub no_rest_slot : {v : Surroundings} {x a : Place} {e : Fault} → Moves (pun "...") x a → NoRow so_far v (tail rest_row) a e → NoItem v (Slot Binds) x e
no_rest_slot {v} {x} {e = e} m n = record { no = λ u z h w a. at h (at_default (Slot Binds) u refl w.reads) w a }
  where
    there : IsTrue (is_found (forth (pun "...") x))
    there = found_at (sym m.is) m.found

    at : {u : Tree} {p : Place} → is_hole u ≡ false → AtDefault v x p u → Whole so_far v false (Slot Binds) x u p → Shallow e (part_depth u) → ⊥
    at {u} h (pattern r) q s = pattern_unmarked u (codes "...") refl refl r there
    at h valued q s = unled (codes "...") refl refl (value_whole (Slot Binds) refl q) there
    at {p = p} h (rest {ts}) q s = (signed_none rest_row refl m n).no ts p (rest_whole q) (node_shallow e false refl of_so_far q.reads s)
    at h gap q s = cc

-- ---- a hole and its comma: what stands behind it is such a list again

turn_hole : {v : Surroundings} {x z : Place} → Moves (pun ",") x z → Turn so_far v inside inside x z (cons hole)
turn_hole {v} {x} {z} m = record { to = forward; from = back; rises = cons_up hole }
  where
    there : IsTrue (is_found (forth (pun ",") x))
    there = found_at (sym m.is) m.found

    ahead : (ts : Forest) (p : Place) → Items (Whole so_far) v Elisions (Slot Binds) z ts p → Items (Whole so_far) v Elisions (Slot Binds) x (part hole ts) p
    ahead none p (nil f) = last (hole_there m) (sym m.is) m.found
    ahead (part u none) p all = more refl (hole_there m) (sym m.is) all
    ahead (part u (part u' us)) p all = more refl (hole_there m) (sym m.is) all

    forward : (ts : Forest) (w : Place) → Walk (Whole so_far) (steady v) inside z ts w → Walk (Whole so_far) (steady v) inside x (cons hole ts) w
    forward ts w (next {ts = vs} (many {ts = us} e all) walk) = next (many refl (ahead us _ all)) walk

    by_last : (b : Bool) {y p : Place} {t : Tree} → is_hole t ≡ b → Whole so_far v false (Slot Binds) x t y → scan y (behind Elisions (spelled t)) ≡ p → (us : Forest) (w : Place) → Walk (Whole so_far) (steady v) closing p us w → From so_far v inside z (cons hole) (part (list (part t none)) us) w
    by_last true {y} {p} {t} h r e us w walk =
        let q = hole_is t h r in
        let is : z ≡ p = m.is ∙ ((λ i. scan (q.place i) (behind Elisions (spelled (q.tree i)))) ∙ e) in
        record { parts = part (list none) us; is = λ i. part (list (part (q.tree i) none)) us; walk = next (many refl (nil m.found)) (subst (λ p. Walk (Whole so_far) (steady v) closing p us w) (sym is) walk) }
    by_last false {y} {t = t} h r e us w walk = absurd ((comma_no_item {e = Unread} there).no t y h r tt)

    by_more : (b : Bool) {y z' p : Place} {t u : Tree} {vs : Forest} → is_hole t ≡ b → Whole so_far v false (Slot Binds) x t y → scan y (between Elisions) ≡ z' → Items (Whole so_far) v Elisions (Slot Binds) z' (part u vs) p → (us : Forest) (w : Place) → Walk (Whole so_far) (steady v) closing p us w
        → From so_far v inside z (cons hole) (part (list (part t (part u vs))) us) w
    by_more true {y} {z'} {p} {t} {u} {vs} h r e all us w walk =
        let q = hole_is t h r in
        let is : z ≡ z' = m.is ∙ ((λ i. scan (q.place i) (between Elisions)) ∙ e) in
        record { parts = part (list (part u vs)) us; is = λ i. part (list (part (q.tree i) (part u vs))) us; walk = next (many refl (subst (λ q. Items (Whole so_far) v Elisions (Slot Binds) q (part u vs) p) (sym is) all)) walk }
    by_more false {y} {t = t} h r e all us w walk = absurd ((comma_no_item {e = Unread} there).no t y h r tt)

    inner : (ts : Forest) (p : Place) → Items (Whole so_far) v Elisions (Slot Binds) x ts p → (us : Forest) (w : Place) → Walk (Whole so_far) (steady v) closing p us w → From so_far v inside z (cons hole) (part (list ts) us) w
    inner ts p (nil f) us w walk = absurd (never_comma x there (closing_found walk))
    inner ts p (last {t = t} r e f) us w walk = by_last (is_hole t) refl r e us w walk
    inner ts p (more {t = t} n r e all) us w walk = by_more (is_hole t) refl r e all us w walk

    back : (us : Forest) (w : Place) → Walk (Whole so_far) (steady v) inside x us w → From so_far v inside z (cons hole) us w
    back us w (next {ts = vs} (many {ts = ts} e all) walk) = inner ts _ all vs w walk

-- ---- an item and a comma

turn_filled : {v : Surroundings} {x y z : Place} {t : Tree} → OnlySlot v x t y → Stuck (pun ",") x → Stuck (pun "]") x → Moves (pun ",") y z → Turn so_far v inside inside x z (cons t)
turn_filled {v} {x} {y} {z} {t} o k c m = record { to = forward; from = back; rises = cons_up t }
  where
    there : IsTrue (is_found (forth (pun ",") y))
    there = found_at (sym m.is) m.found

    whole : Whole so_far v false (Slot Binds) x t y
    whole = whole_before o (comma_ends y there)

    ahead : (ts : Forest) (p : Place) → Items (Whole so_far) v Elisions (Slot Binds) z ts p → Items (Whole so_far) v Elisions (Slot Binds) x (part t ts) p
    ahead none p (nil f) = last whole (trails y o (comma_trails m)) m.found
    ahead (part u none) p all = more (not_last o there) whole (sym m.is) all
    ahead (part u (part u' us)) p all = more (not_last o there) whole (sym m.is) all

    forward : (ts : Forest) (w : Place) → Walk (Whole so_far) (steady v) inside z ts w → Walk (Whole so_far) (steady v) inside x (cons t ts) w
    forward ts w (next {ts = vs} (many {ts = us} e all) walk) = next (many refl (ahead us _ all)) walk

    by_last : (b : Bool) {y' p : Place} {t' : Tree} → is_hole t' ≡ b → Whole so_far v false (Slot Binds) x t' y' → scan y' (behind Elisions (spelled t')) ≡ p → IsTrue (is_found p) → (us : Forest) (w : Place) → Walk (Whole so_far) (steady v) closing p us w → From so_far v inside z (cons t) (part (list (part t' none)) us) w
    by_last true {y'} {p} {t'} h r e f us w walk =
        let q = hole_is t' h r in
        let is : forth (pun ",") x ≡ p = (λ i. scan (q.place i) (behind Elisions (spelled (q.tree i)))) ∙ e in
        absurd (stuck_not k (found_at is f))
    by_last false {y'} {p} {t'} h r e f us w walk =
        let s = o.alone t' y' h r in
        let is : z ≡ p = sym (trails y o (comma_trails m)) ∙ ((λ i. scan (s.1 i) (behind Elisions (spelled (s.0 i)))) ∙ e) in
        record { parts = part (list none) us; is = λ i. part (list (part (s.0 i) none)) us; walk = next (many refl (nil m.found)) (subst (λ p. Walk (Whole so_far) (steady v) closing p us w) (sym is) walk) }

    by_more : (b : Bool) {y' z' p : Place} {t' u : Tree} {vs : Forest} → is_hole t' ≡ b → Whole so_far v false (Slot Binds) x t' y' → scan y' (between Elisions) ≡ z' → Items (Whole so_far) v Elisions (Slot Binds) z' (part u vs) p → (us : Forest) (w : Place) → Walk (Whole so_far) (steady v) closing p us w
        → From so_far v inside z (cons t) (part (list (part t' (part u vs))) us) w
    by_more true {y'} {z'} {t' = t'} h r e all us w walk =
        let q = hole_is t' h r in
        let is : forth (pun ",") x ≡ z' = (λ i. scan (q.place i) (between Elisions)) ∙ e in
        absurd (stuck_not k (found_at is (whole_items_found of_so_far all)))
    by_more false {y'} {z'} {p} {t'} {u} {vs} h r e all us w walk =
        let s = o.alone t' y' h r in
        let is : z ≡ z' = m.is ∙ ((λ i. scan (s.1 i) (between Elisions)) ∙ e) in
        record { parts = part (list (part u vs)) us; is = λ i. part (list (part (s.0 i) (part u vs))) us; walk = next (many refl (subst (λ q. Items (Whole so_far) v Elisions (Slot Binds) q (part u vs) p) (sym is) all)) walk }

    inner : (ts : Forest) (p : Place) → Items (Whole so_far) v Elisions (Slot Binds) x ts p → (us : Forest) (w : Place) → Walk (Whole so_far) (steady v) closing p us w → From so_far v inside z (cons t) (part (list ts) us) w
    inner ts p (nil f) us w walk = absurd (stuck_not c (closing_found walk))
    inner ts p (last {t = t'} r e f) us w walk = by_last (is_hole t') refl r e f us w walk
    inner ts p (more {t = t'} n r e all) us w walk = by_more (is_hole t') refl r e all us w walk

    back : (us : Forest) (w : Place) → Walk (Whole so_far) (steady v) inside x us w → From so_far v inside z (cons t) us w
    back us w (next {ts = vs} (many {ts = ts} e all) walk) = inner ts _ all vs w walk

-- ---- the last item, with no comma behind it

-- whatever is read there is this one and the bracket
last_from : {v : Surroundings} {x y : Place} {t : Tree} → OnlySlot v x t y → Stuck (pun ",") x → Stuck (pun "]") x → Stuck (pun ",") y → (us : Forest) (w : Place) → Walk (Whole so_far) (steady v) inside x us w → From so_far v closing y (part (list (part t none))) us w
last_from {v} {x} {y} {t} o k c n = back
  where
    by_last : (b : Bool) {y' p : Place} {t' : Tree} → is_hole t' ≡ b → Whole so_far v false (Slot Binds) x t' y' → scan y' (behind Elisions (spelled t')) ≡ p → IsTrue (is_found p) → (us : Forest) (w : Place) → Walk (Whole so_far) (steady v) closing p us w → From so_far v closing y (part (list (part t none))) (part (list (part t' none)) us) w
    by_last true {y'} {p} {t'} h r e f us w walk =
        let q = hole_is t' h r in
        let is : forth (pun ",") x ≡ p = (λ i. scan (q.place i) (behind Elisions (spelled (q.tree i)))) ∙ e in
        absurd (stuck_not k (found_at is f))
    by_last false {y'} {p} {t'} h r e f us w walk =
        let s = o.alone t' y' h r in
        let is : y ≡ p = sym (trails y o (nothing_trails y n)) ∙ ((λ i. scan (s.1 i) (behind Elisions (spelled (s.0 i)))) ∙ e) in
        record { parts = us; is = λ i. part (list (part (s.0 i) none)) us; walk = subst (λ p. Walk (Whole so_far) (steady v) closing p us w) (sym is) walk }

    by_more : (b : Bool) {y' z' p : Place} {t' u : Tree} {vs : Forest} {A : Type 0} → is_hole t' ≡ b → Whole so_far v false (Slot Binds) x t' y' → scan y' (between Elisions) ≡ z' → Items (Whole so_far) v Elisions (Slot Binds) z' (part u vs) p → A
    by_more true {y'} {z'} {t' = t'} h r e all =
        let q = hole_is t' h r in
        let is : forth (pun ",") x ≡ z' = (λ i. scan (q.place i) (between Elisions)) ∙ e in
        absurd (stuck_not k (found_at is (whole_items_found of_so_far all)))
    by_more false {y'} {z'} {t' = t'} h r e all =
        let s = o.alone t' y' h r in
        let is : forth (pun ",") y ≡ z' = (λ i. scan (s.1 i) (between Elisions)) ∙ e in
        absurd (stuck_not n (found_at is (whole_items_found of_so_far all)))

    inner : (ts : Forest) (p : Place) → Items (Whole so_far) v Elisions (Slot Binds) x ts p → (us : Forest) (w : Place) → Walk (Whole so_far) (steady v) closing p us w → From so_far v closing y (part (list (part t none))) (part (list ts) us) w
    inner ts p (nil f) us w walk = absurd (stuck_not c (closing_found walk))
    inner ts p (last {t = t'} r e f) us w walk = by_last (is_hole t') refl r e f us w walk
    inner ts p (more {t = t'} m r e all) us w walk = by_more (is_hole t') refl r e all

    back : (us : Forest) (w : Place) → Walk (Whole so_far) (steady v) inside x us w → From so_far v closing y (part (list (part t none))) us w
    back us w (next {ts = vs} (many {ts = ts} e all) walk) = inner ts _ all vs w walk

turn_end : {v : Surroundings} {x y : Place} {t : Tree} → OnlySlot v x t y → Stuck (pun ",") x → Stuck (pun "]") x → Stuck (pun ",") y → IsTrue (is_found (forth (pun "]") y)) → Turn so_far v inside closing x y (part (list (part t none)))
turn_end {v} {x} {y} {t} o k c n f = record { to = λ ts w walk. next (many refl (last (whole_before o (close_ends y f)) (trails y o (nothing_trails y n)) (end_found of_so_far o.reads))) walk; from = last_from o k c n; rises = part_up (list (part t none)) }

-- ---- where nothing more stands

-- what is left, before the `]`
turn_shut : {v : Surroundings} {x z : Place} → Moves (pun "]") x z → Turn so_far v inside closing x x (part (list none))
turn_shut {v} {x} {z} m = record { to = λ ts w walk. next (many refl (nil (found_first (pun "]" ∷ []) x there))) walk; from = back; rises = part_up (list none) }
  where
    there : IsTrue (is_found (forth (pun "]") x))
    there = found_at (sym m.is) m.found

    by_last : (b : Bool) {y p : Place} {t : Tree} {A : Type 0} → is_hole t ≡ b → Whole so_far v false (Slot Binds) x t y → scan y (behind Elisions (spelled t)) ≡ p → IsTrue (is_found p) → A
    by_last true {y} {p} {t} h r e f =
        let q = hole_is t h r in
        let is : forth (pun ",") x ≡ p = (λ i. scan (q.place i) (behind Elisions (spelled (q.tree i)))) ∙ e in
        absurd (never_comma x (found_at is f) there)
    by_last false {y} {t = t} h r e f = absurd ((close_no_item {e = Unread} there).no t y h r tt)

    by_more : (b : Bool) {y z' p : Place} {t u : Tree} {vs : Forest} {A : Type 0} → is_hole t ≡ b → Whole so_far v false (Slot Binds) x t y → scan y (between Elisions) ≡ z' → Items (Whole so_far) v Elisions (Slot Binds) z' (part u vs) p → A
    by_more true {y} {z'} {t = t} h r e all =
        let q = hole_is t h r in
        let is : forth (pun ",") x ≡ z' = (λ i. scan (q.place i) (between Elisions)) ∙ e in
        absurd (never_comma x (found_at is (whole_items_found of_so_far all)) there)
    by_more false {y} {t = t} h r e all = absurd ((close_no_item {e = Unread} there).no t y h r tt)

    inner : (ts : Forest) (p : Place) → Items (Whole so_far) v Elisions (Slot Binds) x ts p → (us : Forest) (w : Place) → Walk (Whole so_far) (steady v) closing p us w → From so_far v closing x (part (list none)) (part (list ts) us) w
    inner ts p (nil f) us w walk = record { parts = us; is = refl; walk = walk }
    inner ts p (last {t = t} r e f) us w walk = by_last (is_hole t) refl r e f
    inner ts p (more {t = t} n r e all) us w walk = by_more (is_hole t) refl r e all

    back : (us : Forest) (w : Place) → Walk (Whole so_far) (steady v) inside x us w → From so_far v closing x (part (list none)) us w
    back us w (next {ts = vs} (many {ts = ts} e all) walk) = inner ts _ all vs w walk

-- what doesn't belong there
no_inside : {v : Surroundings} {x : Place} {o : Fault} → NoItem v (Slot Binds) x o → Stuck (pun ",") x → Stuck (pun "]") x → NoRow so_far v inside x o
no_inside {v} {x} {o = o} b k c = record { no = back }
  where
    by_last : (h : Bool) {y p : Place} {t : Tree} → is_hole t ≡ h → Whole so_far v false (Slot Binds) x t y → scan y (behind Elisions (spelled t)) ≡ p → IsTrue (is_found p) → Shallow o (part_depth t) → ⊥
    by_last true {y} {p} {t} h r e f s' =
        let q = hole_is t h r in
        let is : forth (pun ",") x ≡ p = (λ i. scan (q.place i) (behind Elisions (spelled (q.tree i)))) ∙ e in
        stuck_not k (found_at is f)
    by_last false {y} {t = t} h r e f s' = b.no t y h r s'

    by_more : (h : Bool) {y z' p : Place} {t u : Tree} {vs : Forest} → is_hole t ≡ h → Whole so_far v false (Slot Binds) x t y → scan y (between Elisions) ≡ z' → Items (Whole so_far) v Elisions (Slot Binds) z' (part u vs) p → Shallow o (deepest (part t (part u vs))) → ⊥
    by_more true {y} {z'} {t = t} h r e all a =
        let q = hole_is t h r in
        let is : forth (pun ",") x ≡ z' = (λ i. scan (q.place i) (between Elisions)) ∙ e in
        stuck_not k (found_at is (whole_items_found of_so_far all))
    by_more false {y} {t = t} {u = u} {vs = vs} h r e all a = b.no t y h r (shallow_head o t (part u vs) a)

    inner : (ts : Forest) (p : Place) → Items (Whole so_far) v Elisions (Slot Binds) x ts p → (us : Forest) (w : Place) → Walk (Whole so_far) (steady v) closing p us w → Shallow o (deepest ts) → Shallow o (deepest us) → ⊥
    inner ts p (nil f) us w walk h q' = stuck_not c (closing_found walk)
    inner ts p (last {t = t} r e f) us w walk h q' = by_last (is_hole t) refl r e f (shallow_head o t none h)
    inner ts p (more {t = t} n r e all) us w walk h q' = by_more (is_hole t) refl r e all h

    back : (us : Forest) (w : Place) → Walk (Whole so_far) (steady v) inside x us w → Shallow o (deepest us) → ⊥
    back us w (next {ts = vs} (many {ts = ts} e all) walk) s = inner ts _ all vs w walk (shallow_first o (one (list ts)) vs s) (shallow_rest o (one (list ts)) vs s)

-- ---- the steps of the loop

both_none : (ts : Forest) → both ts none ≡ ts
both_none none = refl
both_none (part t ts) = ap (part t) (both_none ts)

-- neither the `]` nor a comma stands there
pub record Before (v : Surroundings) (y z : Place) (t : Tree) : Type 0 where
  pub item : OnlySlot v y t z
  pub no_comma : Stuck (pun ",") y
  pub no_close : Stuck (pun "]") y

pub before : {v : Surroundings} {y y' y'' z : Place} {t : Tree} → Missed (pun "]") y y' → Missed (pun ",") y' y'' → OnlySlot v y'' t z → Before v y z t
before {v} {z = z} {t = t} m n o = record {
  item = subst (λ p. OnlySlot v p t z) (sym (m.same ∙ n.same)) o;
  no_comma = subst (Stuck (pun ",")) (sym m.same) n.stuck;
  no_close = m.stuck;
}

pub hole_more : {v : Surroundings} {x y y' w : Place} (ts us : Forest) → Turn so_far v inside inside x y (prepend ts) → Missed (pun "]") y y' → Moves (pun ",") y' w → us ≡ both ts (part hole none) → Turn so_far v inside inside x w (prepend us)
hole_more {w = w} ts us so n m e = turn_as (λ vs. prepend_cons ts hole vs ∙ (λ i. prepend (sym e i) vs)) (turn_both so (turn_hole (subst (λ p. Moves (pun ",") p w) (sym n.same) m)))

pub filled_more : {v : Surroundings} {x y z w : Place} {t : Tree} (ts us : Forest) → Turn so_far v inside inside x y (prepend ts) → Before v y z t → Moves (pun ",") z w → us ≡ both ts (part t none) → Turn so_far v inside inside x w (prepend us)
filled_more {t = t} ts us so b m e = turn_as (λ vs. prepend_cons ts t vs ∙ (λ i. prepend (sym e i) vs)) (turn_both so (turn_filled b.item b.no_comma b.no_close m))

pub shut : {v : Surroundings} {x y z : Place} (ts : Forest) → Turn so_far v inside inside x y (prepend ts) → Moves (pun "]") y z → OnlyRow so_far v inside x (part (list ts) none) z
shut {v} {x} {z = z} ts so m = subst (λ us. OnlyRow so_far v inside x (part (list us) none) z) (both_none ts) (turn_only so (turn_only (turn_shut m) (closed m)))

pub none_here : {v : Surroundings} {x y y' y'' : Place} {e : Fault} (ts : Forest) → Turn so_far v inside inside x y (prepend ts) → Missed (pun "]") y y' → Missed (pun ",") y' y'' → NoItem v (Slot Binds) y'' e → NoRow so_far v inside x e
none_here {v} {e = e} ts so m n b = turn_none so (no_inside (subst (λ w. NoItem v (Slot Binds) w e) (sym (m.same ∙ n.same)) b) (subst (Stuck (pun ",")) (sym m.same) n.stuck) m.stuck)

last_filled : {v : Surroundings} {y z z' : Place} {t : Tree} → Before v y z t → Missed (pun ",") z z' → IsTrue (is_found (forth (pun "]") z)) → Turn so_far v inside closing y z' (part (list (part t none)))
last_filled {v} {y} {t = t} b m f = subst (λ p. Turn so_far v inside closing y p (part (list (part t none)))) m.same (turn_end b.item b.no_comma b.no_close m.stuck f)

pub shut_behind : {v : Surroundings} {x y z z' w : Place} {t : Tree} (ts us : Forest) → Turn so_far v inside inside x y (prepend ts) → Before v y z t → Missed (pun ",") z z' → Only so_far v (Fixed (pun "]")) z' nothing w → us ≡ both ts (part t none) → OnlyRow so_far v inside x (part (list us) none) w
shut_behind {v} {x} {w = w} ts us so b m k e = subst (λ vs. OnlyRow so_far v inside x (part (list vs) none) w) (sym e) (turn_only so (turn_only (last_filled b m (subst (λ p. IsTrue (is_found (forth (pun "]") p))) (sym m.same) (at k.past))) (ended_sign k)))
  where
    at : {p q : Place} → Past (Whole so_far) v (Fixed (pun "]")) p nothing q → IsTrue (is_found (forth (pun "]") p))
    at (sign e f) = found_at e f

pub unshut : {v : Surroundings} {x y z z' : Place} {t : Tree} {e : Fault} (ts : Forest) → Turn so_far v inside inside x y (prepend ts) → Before v y z t → Missed (pun ",") z z' → Barred so_far v (Fixed (pun "]")) z' e → NoRow so_far v inside x e
unshut {v} {z = z} {t = t} {e = e} ts so b m k = turn_none so (record { no = λ us w walk s. let f = last_from b.item b.no_comma b.no_close m.stuck us w walk in here.no f.parts w f.walk (shallow_behind e (list (part t none)) f.parts us f.is s) })
  where
    here : NoRow so_far v closing z e
    here = bar (subst (λ p. Barred so_far v (Fixed (pun "]")) p e) (sym m.same) k)
