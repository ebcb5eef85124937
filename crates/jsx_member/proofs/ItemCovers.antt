-- What stands in an array and is no hole, as an expression and as a slot of the pattern that assigns: one by one, and all up to the `]` (ECMA-262 sections 13.2.4 and 13.15.5).
use Rattle.std.proofs.Common.{◌≡◌, Bool, true, false, not, [], ◌∷◌, map, refl, sym, ◌∙◌, ap, subst, Box, Vec, Global}
use Rattle.std.specs.Prelude.{IsTrue, ◌&&◌, codes}
use Rattle.jsx_base.specs.Token.{Text, Elision}
use Rattle.jsx_tree.specs.Kinds.{Parenthesized, RestPat, Spread, WithInit, Assigns, function, expression, Tree, leaf, node, list, Forest, none, part}
use Rattle.jsx_tree.specs.Nonterminals.{ArrayItem, Expr, Pat, PatElement, Slot}
use Rattle.jsx_tree.specs.Grammar.{pun}
use Rattle.jsx_tree.specs.Grows.{as_target}
use Rattle.jsx_tree.specs.Reading.{Place, Lost, forth}
use Rattle.jsx_tree.specs.StaticRules.{Surroundings}
use Rattle.jsx_tree.specs.View.{forest, inside, view_expr}
use Rattle.jsx_tree.specs.declared.tree.Expr.{Expr as Code}
use Rattle.jsx_tree.specs.Walk.{is_found, IsRead, one, sign, tree, Walk, done, next, steady, tail, around}
use Rattle.jsx_tree.specs.Language.{Whole}
use Rattle.jsx_tree.specs.Answers.{Moves, Stuck, Missed, Built}
use Rattle.jsx_tree.proofs.Tokens.{and_both, and_left, and_right}
use Rattle.jsx_tree.proofs.Apart.{clash}
use Rattle.jsx_tree.proofs.Rows.Bodies.{plain as plain_row}
use Rattle.jsx_tree.proofs.Rows.Bridge.{found_at}
use Rattle.jsx_tree.proofs.Rows.Firsts.{kind_home}
use Rattle.jsx_tree.proofs.Rows.Laws.{end_found}
use Rattle.jsx_tree.proofs.Rows.Steps.{bar, both, built_1}
use Rattle.jsx_tree.proofs.Rows.Stopping.{is_not, stays}
use Rattle.jsx_tree.proofs.Rows.Turns.{whole_of}
use Rattle.jsx_tree.specs.Signs.{Sign, Unless}
use Rattle.jsx_tree.specs.Faults.{Fault, Shallow, part_depth, deepest}
use Rattle.jsx_tree.proofs.Rows.Placing.{flat_shallow}
use Rattle.jsx_tree.proofs.Depth.Shallow.{shallow_head}
use Rattle.jsx_token.specs.Marks.{ends_so_far, row_so_far}
use Rattle.jsx_operand.specs.Climbing.{is_target}
use Rattle.jsx_operand.specs.Covers.{view_cover}
use Rattle.jsx_operand.specs.SoFar.{Staged, so_far}
use Rattle.jsx_operand.specs.Turning.{Turns, turn_target, turn_array, turn_object, TurnsElement, turn_plain, turn_filled, TurnsSlots, slots_none, slot_hole, slot, slot_rest, is_literal, is_spread}
use Rattle.jsx_operand.specs.declared.cover.Cover.{Cover}
use Rattle.jsx_operand.proofs.OfSoFar.{of_so_far}
use Rattle.jsx_operand.proofs.Homes.{home_of}
use Rattle.jsx_operand.proofs.Turned.{element_slot, ends_alike, pat_element, slots_both, slots_parted, turned_pat}
use Rattle.jsx_member.specs.Covers.{CoversItems, IsItemCover, IsTurnedSlot, NoItemCover}
use Rattle.jsx_function.specs.Covers.{IsCover, NoCover}
use Rattle.jsx_function.specs.Elements.{is_hole}
use Rattle.jsx_member.specs.declared.literals.Items.{Items}
use Rattle.jsx_member.proofs.Aimed.{at_slot, AtSlot, plain, rest, gap, dots, element_unmarked, rest_led, rest_row}
use Rattle.jsx_member.proofs.CoverItems.{Ends, Fills, IsGap, Longer, hole, inside as within}
use Rattle.jsx_member.proofs.Elements.{items, expression_item, no_expression_item, no_spread_item, spread_item}
use Rattle.jsx_function.proofs.Params.{comma_unless, unless_comma}

stuck_not : {s : Sign} {x : Place} → Stuck s x → IsTrue (is_found (forth s x)) → ⊥
stuck_not k f = let bad : IsTrue (is_found Lost) = subst (λ p. IsTrue (is_found p)) k.is f in cc

-- ---- one that turns into a slot

pub data SlotCase : Tree → Tree → Type 0 where
  gap_case : {s : Text} → SlotCase (leaf Elision s) (leaf Elision s)
  element_case : {t u : Tree} → TurnsElement t u → SlotCase t u
  rest_case : {t u : Tree} → Turns t u → SlotCase (node (expression Spread) (part t none)) (node (function (RestPat Assigns)) (part u none))

pub slot_case : {t u : Tree} → TurnsSlots (part t none) (part u none) → SlotCase t u
slot_case (slot_hole slots_none) = gap_case
slot_case (slot i slots_none) = element_case i
slot_case (slot_rest d slots_none) = rest_case d

pub as_element : {t u : Tree} → is_hole t ≡ false → is_spread t ≡ false → SlotCase t u → TurnsElement t u
as_element h s gap_case = cc
as_element h s (element_case i) = i
as_element h s (rest_case d) = cc

target_filled : (t : Tree) → is_target t ≡ true → is_hole (as_target t) ≡ false
target_filled (leaf Elision s) e = cc
target_filled (leaf _ s) e = refl
target_filled (node (expression Parenthesized) ts) e = refl
target_filled (node _ ts) e = refl
target_filled (list ts) e = refl

turns_filled : {t u : Tree} → Turns t u → is_hole u ≡ false
turns_filled (turn_target {t = t} e) = target_filled t e
turns_filled (turn_array l) = refl
turns_filled (turn_object l) = refl

pub case_filled : {t u : Tree} → is_hole t ≡ false → SlotCase t u → is_hole u ≡ false
case_filled h gap_case = cc
case_filled h (element_case (turn_plain d)) = turns_filled d
case_filled h (element_case turn_filled) = refl
case_filled h (rest_case d) = refl

-- a spread turns into a rest
pub record RestOf (s p : Tree) : Type 0 where
  pub target : Tree
  pub turns : Turns s target
  pub is : p ≡ node (function (RestPat Assigns)) (part target none)

spread_unturned : (t : Tree) {u s : Tree} → Turns t u → t ≡ node (expression Spread) (part s none) → ⊥
spread_unturned t (turn_target e) q = let bad : true ≡ false = sym e ∙ ap is_target q in cc
spread_unturned t (turn_array l) q = cc
spread_unturned t (turn_object l) q = cc

spread_of : {a b : Tree} → node (expression Spread) (part a none) ≡ node (expression Spread) (part b none) → a ≡ b
spread_of e = cc

pub rest_of : {t p s : Tree} → SlotCase t p → t ≡ node (expression Spread) (part s none) → RestOf s p
rest_of gap_case e = cc
rest_of (element_case {t = t} (turn_plain d)) e = absurd (spread_unturned t d e)
rest_of (element_case turn_filled) e = cc
rest_of (rest_case {u = u} d) e = record { target = u; turns = subst (λ a. Turns a u) (spread_of e) d; is = refl }

-- ---- which trees are no holes, and no spreads

literal_filled : (t : Tree) → is_literal t ≡ true → is_hole t ≡ false
literal_filled (leaf k s) e = cc
literal_filled (node k ts) e = refl
literal_filled (list ts) e = refl

literal_unspread : (t : Tree) → is_literal t ≡ true → is_spread t ≡ false
literal_unspread (node (expression Spread) ts) e = cc
literal_unspread (node _ ts) e = refl
literal_unspread (leaf k s) e = refl
literal_unspread (list ts) e = refl

value_unspread : {v : Surroundings} {x y : Place} (t : Tree) → Staged v false (Expr 1) x t y → is_spread t ≡ false
value_unspread (node (expression Spread) ts) r = absurd (clash _ (kind_home (Expr 1) (expression Spread) ts (home_of r)) refl)
value_unspread (node _ ts) r = refl
value_unspread (leaf k s) r = refl
value_unspread (list ts) r = refl

pub cover_unspread : {v : Surroundings} {x y : Place} (c : Cover) → IsCover v 1 x c y → (b : Bool) → c.is_expr ≡ b → is_spread (view_cover c) ≡ false
cover_unspread c o true e = value_unspread (view_cover c) (whole_of (o.expr e).past).reads
cover_unspread c o false e = literal_unspread (view_cover c) (o.unsettled e)

-- an element that stands where no default does is its pattern
bare_turns : {v : Surroundings} {x y : Place} {t u : Tree} → Staged v false (Pat Assigns) x u y → TurnsElement t u → Turns t u
bare_turns r (turn_plain d) = d
bare_turns r (turn_filled {p = p} {e = e}) = absurd (clash _ (kind_home (Pat Assigns) (function (WithInit Assigns)) (part p (part e none)) (home_of r)) refl)

slot_ends : (y : Place) → ends_so_far (Slot Assigns) y ≡ ends_so_far (PatElement Assigns) y
slot_ends y = ends_alike (Slot Assigns) (PatElement Assigns) y refl

-- ---- where no dots stand

pub item_cover : {v : Surroundings} {x x' y : Place} {c : Cover} → Missed (pun "...") x x' → IsCover v 1 x' c y → IsItemCover v x c y
item_cover {v} {x} {x'} {y} {c} m o = record {
  expr = λ e. expression_item items m (o.expr e);
  none = λ e. no_expression_item items m (o.none e);
  filled = filled c.is_expr refl;
  reads = λ p q. subst (λ a. Staged v false (Slot Assigns) a p y) (sym m.same) (element_slot p ((o.element refl).reads p (record { may = q.may; turns = as_element (filled c.is_expr refl) (cover_unspread c o c.is_expr refl) (slot_case q.turns) })));
  alone = λ p z n w. at n w (at_slot p w.reads);
}
  where
    filled : (b : Bool) → c.is_expr ≡ b → is_hole (view_cover c) ≡ false
    filled true e = (expression_item items m (o.expr e)).filled
    filled false e = literal_filled (view_cover c) (o.unsettled e)

    at : {p : Tree} {z : Place} → is_hole p ≡ false → Whole so_far v false (Slot Assigns) x p z → AtSlot v x z p → IsTurnedSlot c p × (y ≡ z)
    at {p} {z} n w (plain q) =
        let s = (o.element refl).alone p z (subst (λ a. Whole so_far v false (PatElement Assigns) a p z) m.same (record { reads = q; ends_there = sym (slot_ends z) ∙ w.ends_there })) in
        (record { may = s.0.may; turns = slot s.0.turns slots_none }, s.1)
    at n w rest = absurd (stuck_not m.stuck (rest_led w.reads))
    at n w gap = cc

pub no_item_cover : {v : Surroundings} {x x' : Place} {e : Fault} → Missed (pun "...") x x' → NoCover v 1 x' e → NoItemCover v x e
no_item_cover {v} {x} {e = e} m o = record { item = no_expression_item items m o.none; slot = record { no = λ p z n w s. at n w (at_slot p w.reads) s } }
  where
    at : {p : Tree} {z : Place} → is_hole p ≡ false → Whole so_far v false (Slot Assigns) x p z → AtSlot v x z p → Shallow e (part_depth p) → ⊥
    at {p} {z} n w (plain q) s = o.element refl p z (subst (λ a. Whole so_far v false (PatElement Assigns) a p z) m.same (record { reads = q; ends_there = sym (slot_ends z) ∙ w.ends_there })) s
    at n w rest s = stuck_not m.stuck (rest_led w.reads)
    at n w gap s = cc

-- ---- behind dots

record RestRead (v : Surroundings) (a : Place) (ts : Forest) (z : Place) : Type 0 where
  target : Tree
  is : ts ≡ part target none
  reads : Staged v false (Pat Assigns) a target z
  no_comma : is_found (forth (pun ",") z) ≡ false

rest_parts : {v : Surroundings} {x a z : Place} {ts us : Forest} → Moves (pun "...") x a → Walk Staged (around v us) rest_row x ts z → RestRead v a ts z
rest_parts {v} {x} {a} {z} m (next {y = d} (sign e f) (next {y = b} (tree {t = u} r) (next (sign g h) (done k)))) =
    let here = sym g ∙ stays (Unless (codes "," ∷ [])) b refl (subst (λ p. IsTrue (is_found p)) (sym g) h) in
    record {
      target = u;
      is = refl;
      reads = subst (λ p. Staged v false (Pat Assigns) p u z) (sym (m.is ∙ e)) (subst (λ p. Staged v false (Pat Assigns) d u p) (sym here) r);
      no_comma = unfollowed (is_found (forth (pun ",") z)) refl (λ c. gone b g h (subst (λ p. IsTrue (is_found (forth (pun ",") p))) here c));
    }
  where
    unfollowed : (b : Bool) → is_found (forth (pun ",") z) ≡ b → (IsTrue (is_found (forth (pun ",") z)) → ⊥) → is_found (forth (pun ",") z) ≡ false
    unfollowed true e n = absurd (n e)
    unfollowed false e n = e

    gone : (b : Place) → forth (Unless (codes "," ∷ [])) b ≡ z → IsTrue (is_found z) → IsTrue (is_found (forth (pun ",") b)) → ⊥
    gone b g h c = let bad : IsTrue (is_found Lost) = subst (λ p. IsTrue (is_found p)) (sym g ∙ comma_unless b c) h in cc

pub spread_cover : {v : Surroundings} {x a y : Place} {i c : Cover} → Moves (pun "...") x a → IsCover v 1 a i y → view_cover c ≡ node (expression Spread) (part (view_cover i) none) → c.is_expr ≡ i.is_expr → c.may_turn ≡ (i.may_turn && not (is_found (forth (pun ",") y))) → IsItemCover v x c y
spread_cover {v} {x} {a} {y} {i} {c} m o is is_expr may = record {
  expr = λ e. spread_item items m (built (sym is_expr ∙ e));
  none = λ e. no_spread_item items m (bar (o.none (sym is_expr ∙ e)));
  filled = ap is_hole is;
  reads = λ p q. reads (rest_of (slot_case q.turns) is) (sym may ∙ q.may);
  alone = λ p z n w. at n w (at_slot p w.reads);
}
  where
    there : IsTrue (is_found (forth (pun "...") x))
    there = found_at (sym m.is) m.found

    built : i.is_expr ≡ true → Built so_far v (tail (row_so_far (expression Spread))) (expression Spread) (λ ts. ts) (view_cover c) a y
    built e = let w = o.expr e in built_1 (end_found of_so_far (whole_of w.past).reads) w is

    reads : {p : Tree} → RestOf (view_cover i) p → (i.may_turn && not (is_found (forth (pun ",") y))) ≡ true → Staged v false (Slot Assigns) x p y
    reads {p} r q =
        let u : Staged v false (Pat Assigns) a r.target y = turned_pat r.turns ((o.element refl).reads r.target (record { may = and_left i.may_turn _ q; turns = turn_plain r.turns })) in
        let ends = unless_comma y (is_not _ (and_right i.may_turn _ q)) u.reads.found in
        let walk : Walk IsRead (steady v) rest_row x (part r.target none) y = next (sign (sym m.is) m.found) (next (tree u.reads) (next (sign ends u.reads.found) (done u.reads.found))) in
        subst (λ t. Staged v false (Slot Assigns) x t y) (sym r.is)
        (of_so_far.to_node (function (RestPat Assigns)) refl (record { walk = next (sign (sym m.is) m.found) (next (tree u) (next (sign ends u.reads.found) (done u.reads.found))); keeps = and_both _ _ (plain_row rest_row refl walk) refl }))

    rests : {ts : Forest} {z : Place} → Whole so_far v false (Slot Assigns) x (node (function (RestPat Assigns)) ts) z → RestRead v a ts z → IsTurnedSlot c (node (function (RestPat Assigns)) ts) × (y ≡ z)
    rests {ts} {z} w r =
        let s = (o.element refl).alone r.target z (record { reads = pat_element r.target r.reads; ends_there = sym (slot_ends z) ∙ w.ends_there }) in
        let d = bare_turns r.reads s.0.turns in (
          record {
            may = may ∙ and_both _ _ s.0.may (ap not (ap (λ p. is_found (forth (pun ",") p)) s.1 ∙ r.no_comma));
            turns = subst (λ t. TurnsSlots (part t none) (part (node (function (RestPat Assigns)) ts) none)) (sym is) (subst (λ us. TurnsSlots (part (node (expression Spread) (part (view_cover i) none)) none) (part (node (function (RestPat Assigns)) us) none)) (sym r.is) (slot_rest d slots_none));
          },
          s.1,
        )

    at : {p : Tree} {z : Place} → is_hole p ≡ false → Whole so_far v false (Slot Assigns) x p z → AtSlot v x z p → IsTurnedSlot c p × (y ≡ z)
    at {p} n w (plain q) = absurd (element_unmarked p dots q there)
    at n w (rest {ts}) = rests w (rest_parts {us = ts} m (of_so_far.from_node (function (RestPat Assigns)) w.reads).walk)
    at n w gap = cc

pub no_spread_cover : {v : Surroundings} {x a : Place} {e : Fault} → Moves (pun "...") x a → NoCover v 1 a e → NoItemCover v x e
no_spread_cover {v} {x} {a} {e = e} m o = record { item = no_spread_item items m (bar o.none); slot = record { no = λ p z n w s. at n w (at_slot p w.reads) s } }
  where
    rests : {ts : Forest} {z : Place} → Whole so_far v false (Slot Assigns) x (node (function (RestPat Assigns)) ts) z → RestRead v a ts z → Shallow e (part_depth (node (function (RestPat Assigns)) ts)) → ⊥
    rests {z = z} w r h = o.element refl r.target z (record { reads = pat_element r.target r.reads; ends_there = sym (slot_ends z) ∙ w.ends_there }) (shallow_head e r.target none (subst (λ us. Shallow e (deepest us)) r.is (flat_shallow e of_so_far w.reads h)))

    at : {p : Tree} {z : Place} → is_hole p ≡ false → Whole so_far v false (Slot Assigns) x p z → AtSlot v x z p → Shallow e (part_depth p) → ⊥
    at {p} n w (plain q) s = element_unmarked p dots q (found_at (sym m.is) m.found)
    at n w (rest {ts}) s = rests w (rest_parts {us = ts} m (of_so_far.from_node (function (RestPat Assigns)) w.reads).walk) s
    at n w gap s = cc

-- ---- what a loop over both rows keeps

pub record IsItem (c : Cover) (t : Tree) : Type 0 where
  pub settled : c.is_expr ≡ true
  pub is : view_cover c ≡ t

pub record AreAll (e : Bool) (ts us : Forest) : Type 0 where
  pub settled : e ≡ true
  pub is : ts ≡ us

pub record TurnInto (m : Bool) (ts us : Forest) : Type 0 where
  pub may : m ≡ true
  pub turns : TurnsSlots ts us

pub item_fills : {v : Surroundings} {x y : Place} {c : Cover} → IsItemCover v x c y → Fills v ArrayItem x (IsItem c) y
item_fills {v} {x} {y} {c} o = record {
  reads = λ t q. subst (λ u. Staged v false ArrayItem x u y) q.is (o.expr q.settled).reads.reads;
  filled = λ t q. ap is_hole (sym q.is) ∙ o.filled;
  alone = λ u z n w. at c.is_expr refl n w;
}
  where
    at : (b : Bool) → c.is_expr ≡ b → {u : Tree} {z : Place} → is_hole u ≡ false → Whole so_far v false ArrayItem x u z → IsItem c u × (y ≡ z)
    at true e {u} {z} n w = let s = (o.expr e).alone u z n w in (record { settled = e; is = s.0 }, s.1)
    at false e {u} {z} n w = absurd ((o.none e).no u z n w tt)

pub slot_fills : {v : Surroundings} {x y : Place} {c : Cover} → IsItemCover v x c y → Fills v (Slot Assigns) x (IsTurnedSlot c) y
slot_fills o = record { reads = o.reads; filled = λ t q. case_filled o.filled (slot_case q.turns); alone = o.alone }

pub items_longer : {e b : Bool} {c : Cover} {ts us : Forest} → b ≡ (e && c.is_expr) → us ≡ both ts (part (view_cover c) none) → Longer (AreAll e ts) (IsItem c) (AreAll b us)
items_longer {e} {b} {c} {ts} {us} f g = record {
  join = λ fs t q p. record { settled = f ∙ and_both _ _ q.settled p.settled; is = g ∙ (λ i. both (q.is i) (part (p.is i) none)) };
  split = λ ws r. record { front = ts; item = view_cover c; before = record { settled = and_left e _ (sym f ∙ r.settled); is = refl }; one = record { settled = and_right e _ (sym f ∙ r.settled); is = refl }; is = sym r.is ∙ g };
}

-- such a list has one tree
record Alone (t : Tree) (us : Forest) : Type 0 where
  item : Tree
  is : us ≡ part item none
  turns : TurnsSlots (part t none) (part item none)

alone_of : {t : Tree} {us : Forest} → TurnsSlots (part t none) us → Alone t us
alone_of (slot_hole {t = s} slots_none) = record { item = leaf Elision s; is = refl; turns = slot_hole slots_none }
alone_of (slot {u = u} i slots_none) = record { item = u; is = refl; turns = slot i slots_none }
alone_of (slot_rest {u = u} d slots_none) = record { item = node (function (RestPat Assigns)) (part u none); is = refl; turns = slot_rest d slots_none }

pub slots_longer : {e b : Bool} {c : Cover} {ts us : Forest} → b ≡ (e && c.may_turn) → us ≡ both ts (part (view_cover c) none) → Longer (TurnInto e ts) (IsTurnedSlot c) (TurnInto b us)
slots_longer {e} {b} {c} {ts} {us} f g = record {
  join = λ fs t q p. record { may = f ∙ and_both _ _ q.may p.may; turns = subst (λ hs. TurnsSlots hs (both fs (part t none))) (sym g) (slots_both q.turns p.turns) };
  split = λ ws r.
      let s = slots_parted ts (subst (λ hs. TurnsSlots hs ws) g r.turns) in
      let o = alone_of s.second in
      record { front = s.front; item = o.item; before = record { may = and_left e _ (sym f ∙ r.may); turns = s.first }; one = record { may = and_right e _ (sym f ∙ r.may); turns = o.turns }; is = s.is ∙ ap (both s.front) o.is };
}

-- a hole is one of both
pub gap_items : {e : Bool} {ts us : Forest} → us ≡ both ts (part hole none) → Longer (AreAll e ts) IsGap (AreAll e us)
gap_items {ts = ts} g = record {
  join = λ fs t q p. record { settled = q.settled; is = g ∙ (λ i. both (q.is i) (part (p i) none)) };
  split = λ ws r. record { front = ts; item = hole; before = record { settled = r.settled; is = refl }; one = refl; is = sym r.is ∙ g };
}

hole_unturned : (t : Tree) {u : Tree} → Turns t u → t ≡ hole → ⊥
hole_unturned t (turn_target e) q = let bad : true ≡ false = sym e ∙ ap is_target q in cc
hole_unturned t (turn_array l) q = cc
hole_unturned t (turn_object l) q = cc

gap_of : {t p : Tree} → SlotCase t p → t ≡ hole → hole ≡ p
gap_of gap_case e = sym e
gap_of (element_case {t = t} (turn_plain d)) e = absurd (hole_unturned t d e)
gap_of (element_case turn_filled) e = cc
gap_of (rest_case d) e = cc

pub gap_slots : {e : Bool} {ts us : Forest} → us ≡ both ts (part hole none) → Longer (TurnInto e ts) IsGap (TurnInto e us)
gap_slots {ts = ts} g = record {
  join = λ fs t q p. record { may = q.may; turns = subst (λ hs. TurnsSlots hs (both fs (part t none))) (sym g) (slots_both q.turns (subst (λ u. TurnsSlots (part hole none) (part u none)) p (slot_hole slots_none))) };
  split = λ ws r.
      let s = slots_parted ts (subst (λ hs. TurnsSlots hs ws) g r.turns) in
      let o = alone_of s.second in
      record { front = s.front; item = o.item; before = record { may = r.may; turns = s.first }; one = gap_of (slot_case o.turns) refl; is = s.is ∙ ap (both s.front) o.is };
}

-- none so far
no_items : {us : Forest} → TurnsSlots none us → us ≡ none
no_items slots_none = refl

pub none_all : {e : Bool} → e ≡ true → AreAll e none none
none_all f = record { settled = f; is = refl }

pub all_none : {e : Bool} (fs : Forest) → AreAll e none fs → fs ≡ none
all_none fs q = sym q.is

pub none_turn : {e : Bool} → e ≡ true → TurnInto e none none
none_turn f = record { may = f; turns = slots_none }

pub turn_none : {e : Bool} (fs : Forest) → TurnInto e none fs → fs ≡ none
turn_none fs q = no_items q.turns

-- ---- what both rows give

pub items_cover : {v : Surroundings} {x y : Place} {all : Vec (Box Code Global) Global} {e m : Bool} (q : Items) → q ≡ record { all = all; are_exprs = e; may_turn = m } → Ends v (within ArrayItem) x (AreAll e (forest (map (inside view_expr) all.items))) y → Ends v (within (Slot Assigns)) x (TurnInto m (forest (map (inside view_expr) all.items))) y → CoversItems v x q y
items_cover {v} {x} {y} {all} {e} {m} q is r s = subst (λ k. CoversItems v x k y) (sym is) (record {
  expr = λ f. record { walk = r.reads _ (record { settled = f; is = refl }); alone = λ us z w. let g = r.alone us z w in (ap (λ ts. part (list ts) none) g.0.among.is ∙ sym g.0.is, g.1) };
  none = λ f. record { no = λ us z w s. clash e (r.alone us z w).0.among.settled f };
  reads = λ ts a. subst (λ us. Walk (Whole so_far) (steady v) (within (Slot Assigns)) x us y) (sym a.is) (s.reads a.slots (record { may = a.may; turns = a.turns }));
  alone = λ ts z w. let g = s.alone ts z w in (record { may = g.0.among.may; slots = g.0.items; is = g.0.is; turns = g.0.among.turns }, g.1);
})
