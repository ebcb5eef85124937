-- An array and an object behind their brackets, as an expression and as the pattern that assigns: from what stands up to their ends (ECMA-262 sections 13.2.4, 13.2.5 and 13.15.5).
use Rattle.std.proofs.Common.{◌≡◌, nat_eq, Bool, true, false, not, List, [], ◌∷◌, refl, sym, ◌∙◌, ap, subst, Option}
use Rattle.std.specs.Prelude.{IsTrue, codes, ◌&&◌}
use Rattle.jsx_base.specs.Token.{Punctuator}
use Rattle.jsx_base.specs.declared.place.Span.{Span}
use Rattle.jsx_tree.specs.Signs.{Sign}
use Rattle.jsx_tree.specs.Kinds.{Array, ArrayPat, Object, ObjectPat, Assigns, Binds, Kind, function, expression, Tree, leaf, node, list, Forest, none, part}
use Rattle.jsx_tree.specs.Nonterminals.{Pat}
use Rattle.jsx_tree.specs.Grammar.{pun, Fixed}
use Rattle.jsx_tree.specs.Reading.{Place, forth}
use Rattle.jsx_tree.specs.StaticRules.{Surroundings, at_most, is_proto}
use Rattle.jsx_tree.specs.Told.{told_list, told_node}
use Rattle.jsx_tree.specs.Walk.{is_found, Piece, Walk, steady, tail, piece, sign, next}
use Rattle.jsx_tree.specs.Language.{Whole}
use Rattle.jsx_tree.specs.Answers.{Moves, NoNode}
use Rattle.jsx_tree.specs.Faults.{Fault, Unread, Shallow, outer, part_depth}
use Rattle.jsx_tree.proofs.Tokens.{and_both}
use Rattle.jsx_tree.proofs.Apart.{clash, never_both}
use Rattle.jsx_tree.proofs.Rows.Bodies.{plain as plain_row}
use Rattle.jsx_tree.proofs.Rows.Bridge.{found_at}
use Rattle.jsx_tree.proofs.Rows.Firsts.{kind_home}
use Rattle.jsx_tree.proofs.Rows.Guarded.{whole_walk, loosen, to_grammar}
use Rattle.jsx_tree.proofs.Rows.Placing.{free_around, moved, no_node, node_shallow}
use Rattle.jsx_tree.proofs.Rows.Steps.{on}
use Rattle.jsx_tree.proofs.Rows.Stopping.{never_stops}
use Rattle.jsx_token.specs.Here.{Here}
use Rattle.jsx_token.specs.Marks.{row_so_far}
use Rattle.jsx_token.specs.Places.{begin_of, end_of, next_of}
use Rattle.jsx_token.proofs.Listed.{listed, code, kinds, every, of_each, one_place, implies, implied}
use Rattle.jsx_operand.specs.Climbing.{is_target}
use Rattle.jsx_operand.specs.Covers.{IsTurned, view_cover}
use Rattle.jsx_operand.specs.Openings.{opens_with, NoParts}
use Rattle.jsx_operand.specs.SoFar.{Staged, so_far}
use Rattle.jsx_operand.specs.Spans.{Spans}
use Rattle.jsx_operand.specs.Turning.{Turns, turn_target, turn_array, turn_object, TurnsElement, turn_plain, turn_filled, TurnsSlots, TurnsParts, is_bracketed, is_literal, retold}
use Rattle.jsx_operand.specs.declared.cover.Cover.{Cover}
use Rattle.jsx_operand.proofs.OfSoFar.{of_so_far}
use Rattle.jsx_operand.proofs.Homes.{home_of}
use Rattle.jsx_operand.proofs.Openings.{Other, free_none, itself, kept_behind, opened_by, opens_listed}
use Rattle.jsx_operand.proofs.Placing.{placed_as}
use Rattle.jsx_operand.proofs.PlacedExpressions.{array_pattern_placed, array_row, object_pattern_placed, object_row}
use Rattle.jsx_operand.proofs.Protos.{object_node, two_protos}
use Rattle.jsx_operand.proofs.Values.{led_sign}
use Rattle.jsx_member.specs.Covers.{CoversItems, CoversMembers, IsPatternCover, IsPlacedCoverBehind, IsPlacedItems, IsPlacedMembers, NoCoverOpened, NoItems, NoMembers, OpensCover, told_items, told_members, view_items, view_members}
use Rattle.jsx_function.specs.Covers.{told_cover}
use Rattle.jsx_member.specs.declared.literals.Items.{Items}
use Rattle.jsx_member.specs.declared.literals.Members.{Members}

-- ---- the kinds that open with these brackets

abbrev arrays : Kind → Bool
arrays j = implies (opens_with (pun "[") j) (nat_eq (code j) (code (expression Array)))

all_arrays : every arrays kinds ≡ true
all_arrays = refl

abbrev objects : Kind → Bool
objects j = implies (opens_with (pun "{") j) (nat_eq (code j) (code (expression Object)))

all_objects : every objects kinds ≡ true
all_objects = refl

of_array : (P : Kind → Type 0) → P (expression Array) → (j : Kind) → opens_with (pun "[") j ≡ true → P j
of_array P p j o = subst P (sym (one_place j (expression Array) (opens_listed (pun "[") j o) (listed (expression Array) refl refl refl) (implied (opens_with (pun "[") j) _ (of_each arrays all_arrays j (opens_listed (pun "[") j o)) o))) p

of_object : (P : Kind → Type 0) → P (expression Object) → (j : Kind) → opens_with (pun "{") j ≡ true → P j
of_object P p j o = subst P (sym (one_place j (expression Object) (opens_listed (pun "{") j o) (listed (expression Object) refl refl refl) (implied (opens_with (pun "{") j) _ (of_each objects all_objects j (opens_listed (pun "{") j o)) o))) p

-- ---- patterns in brackets, along their rows

abbrev array_row_of : List Piece
array_row_of = row_so_far (function (ArrayPat Assigns))

abbrev object_row_of : List Piece
object_row_of = row_so_far (function (ObjectPat Assigns))

data AtBrackets : Tree → Type 0 where
  in_array : {ts : Forest} → AtBrackets (node (function (ArrayPat Assigns)) ts)
  in_object : {ts : Forest} → AtBrackets (node (function (ObjectPat Assigns)) ts)

at_brackets : {v : Surroundings} {x y : Place} (t : Tree) → is_bracketed t ≡ true → Staged v false (Pat Assigns) x t y → AtBrackets t
at_brackets (node (function (ArrayPat Assigns)) ts) b r = in_array
at_brackets (node (function (ObjectPat Assigns)) ts) b r = in_object
at_brackets (node (function (ArrayPat Binds)) ts) b r = absurd (clash _ (kind_home (Pat Assigns) (function (ArrayPat Binds)) ts (home_of r)) refl)
at_brackets (node (function (ObjectPat Binds)) ts) b r = absurd (clash _ (kind_home (Pat Assigns) (function (ObjectPat Binds)) ts (home_of r)) refl)
at_brackets (node _ ts) b r = cc
at_brackets (leaf k s) b r = cc
at_brackets (list ts) b r = cc

array_whole : {v : Surroundings} {x z : Place} {ts : Forest} → Staged v false (Pat Assigns) x (node (function (ArrayPat Assigns)) ts) z → Walk (Whole so_far) (steady v) array_row_of x ts z
array_whole {v} {z = z} {ts} r = moved (λ a h. free_around a ts v h) refl (whole_walk of_so_far (Pat Assigns) array_row_of refl (of_so_far.ends_there (Pat Assigns) z (never_stops (Pat Assigns) z refl)) (of_so_far.from_node (function (ArrayPat Assigns)) r).walk)

object_whole : {v : Surroundings} {x z : Place} {ts : Forest} → Staged v false (Pat Assigns) x (node (function (ObjectPat Assigns)) ts) z → Walk (Whole so_far) (steady v) object_row_of x ts z
object_whole {v} {z = z} {ts} r = moved (λ a h. free_around a ts v h) refl (whole_walk of_so_far (Pat Assigns) object_row_of refl (of_so_far.ends_there (Pat Assigns) z (never_stops (Pat Assigns) z refl)) (of_so_far.from_node (function (ObjectPat Assigns)) r).walk)

array_led : {v : Surroundings} {x z : Place} {ts : Forest} → Staged v false (Pat Assigns) x (node (function (ArrayPat Assigns)) ts) z → IsTrue (is_found (forth (pun "[") x))
array_led r = led_sign array_row_of refl (of_so_far.from_node (function (ArrayPat Assigns)) r).walk

object_led : {v : Surroundings} {x z : Place} {ts : Forest} → Staged v false (Pat Assigns) x (node (function (ObjectPat Assigns)) ts) z → IsTrue (is_found (forth (pun "{") x))
object_led r = led_sign object_row_of refl (of_so_far.from_node (function (ObjectPat Assigns)) r).walk

-- behind the sign
past_sign : {v : Surroundings} {s : Sign} {ps : List Piece} {w x z : Place} {ts : Forest} → Moves s w x → Walk (Whole so_far) (steady v) (piece [] (Fixed s) ∷ ps) w ts z → Walk (Whole so_far) (steady v) ps x ts z
past_sign {v} {ps = ps} {z = z} m (next {ts = ts} (sign e f) walk) = subst (λ a. Walk (Whole so_far) (steady v) ps a ts z) (sym (m.is ∙ e)) walk

-- ---- what a literal turns into

record ArrayOf (ts : Forest) (p : Tree) : Type 0 where
  slots : Forest
  turns : TurnsSlots ts slots
  is : p ≡ node (function (ArrayPat Assigns)) (part (list slots) none)

items_of : {ts us : Forest} → node (expression Array) (part (list ts) none) ≡ node (expression Array) (part (list us) none) → ts ≡ us
items_of e = cc

array_of : {t p : Tree} {ts : Forest} → Turns t p → t ≡ node (expression Array) (part (list ts) none) → ArrayOf ts p
array_of (turn_target {t = t} h) e = let bad : true ≡ false = sym h ∙ ap is_target e in cc
array_of (turn_array {us = us} l) e = record { slots = us; turns = subst (λ ts. TurnsSlots ts us) (items_of e) l; is = refl }
array_of (turn_object l) e = cc

record ObjectOf (ts : Forest) (p : Tree) : Type 0 where
  parts : Forest
  turns : TurnsParts ts parts
  is : p ≡ node (function (ObjectPat Assigns)) (part (list parts) none)

members_of : {ts us : Forest} → node (expression Object) (part (list ts) none) ≡ node (expression Object) (part (list us) none) → ts ≡ us
members_of e = cc

object_of : {t p : Tree} {ts : Forest} → Turns t p → t ≡ node (expression Object) (part (list ts) none) → ObjectOf ts p
object_of (turn_target {t = t} h) e = let bad : true ≡ false = sym h ∙ ap is_target e in cc
object_of (turn_array l) e = cc
object_of (turn_object {us = us} l) e = record { parts = us; turns = subst (λ ts. TurnsParts ts us) (members_of e) l; is = refl }

-- with no default
bare_array : {t p : Tree} {ts : Forest} → TurnsElement t p → t ≡ node (expression Array) ts → Turns t p
bare_array (turn_plain d) e = d
bare_array turn_filled e = cc

bare_object : {t p : Tree} {ts : Forest} → TurnsElement t p → t ≡ node (expression Object) ts → Turns t p
bare_object (turn_plain d) e = d
bare_object turn_filled e = cc

-- ---- an array

array_pattern : {v : Surroundings} {x y : Place} {q : Items} {c : Cover} → CoversItems v x q y → view_cover c ≡ node (expression Array) (part (list (view_items q)) none) → c.may_turn ≡ q.may_turn → (w : Place) → Moves (pun "[") w x → IsPatternCover v w c y
array_pattern {v} {x} {y} {q} {c} o is may w m = record { reads = λ p t b. reads t; alone = λ p z b r. at (at_brackets p b r) r }
  where
    reads : {p : Tree} → IsTurned c p → Staged v false (Pat Assigns) w p y
    reads {p} t =
        let a = array_of t.turns is in
        let row = o.reads (part (list a.slots) none) (record { may = sym may ∙ t.may; slots = a.slots; is = refl; turns = a.turns }) in
        let whole : Walk (Whole so_far) (steady v) array_row_of w (part (list a.slots) none) y = next (sign (sym m.is) m.found) row in
        subst (λ u. Staged v false (Pat Assigns) w u y) (sym a.is)
        (of_so_far.to_node (function (ArrayPat Assigns)) refl (record { walk = loosen (moved (λ b h. sym (free_around b (part (list a.slots) none) v h)) refl whole); keeps = and_both _ _ (plain_row array_row_of refl (to_grammar of_so_far whole)) refl }))

    at : {p : Tree} {z : Place} → AtBrackets p → Staged v false (Pat Assigns) w p z → IsTurned c p × (y ≡ z)
    at {z = z} (in_array {ts}) r =
        let s = o.alone ts z (past_sign m (array_whole r)) in
        (record { may = may ∙ s.0.may; turns = subst (λ u. Turns u (node (function (ArrayPat Assigns)) ts)) (sym is) (subst (λ us. Turns (node (expression Array) (part (list (view_items q)) none)) (node (function (ArrayPat Assigns)) us)) (sym s.0.is) (turn_array s.0.turns)) }, s.1)
    at in_object r = absurd (never_both Punctuator Punctuator (codes "[") (codes "{") w refl (found_at (sym m.is) m.found) (object_led r))

pub array_cover : {v : Surroundings} {x y : Place} {q : Items} {c : Cover} → CoversItems v x q y → view_cover c ≡ node (expression Array) (part (list (view_items q)) none) → c.is_expr ≡ q.are_exprs → c.may_turn ≡ q.may_turn → OpensCover v (pun "[") c x y
array_cover {v} {x} {y} {q} {c} o is e may = record {
  expr = λ f. opened_by (expression Array) refl refl (kept_behind (expression Array) (listed (expression Array) refl refl refl) refl refl (record { parts = part (list (view_items q)) none; is = is; row = o.expr (sym e ∙ f) })) (of_array (Other v x (expression Array)) itself);
  none = λ f. record { no = of_array (λ j. NoParts v j x Unread) (free_none (expression Array) refl (no_node (o.none (sym e ∙ f)))) };
  pattern = array_pattern o is may;
  literal = λ f. ap is_literal is;
  other = λ f. cc;
  may = λ f. absurd (clash _ (ap is_literal is) f);
  unsettled = λ f. ap is_literal is;
}

pub no_array_cover : {v : Surroundings} {x : Place} {e : Fault} → NoItems v x e → NoCoverOpened v (pun "[") x e
no_array_cover {v} {x} {e = e} n = record {
  none = record { no = of_array (λ j. NoParts v j x e) (free_none (expression Array) refl (no_node n.items)) };
  pattern = λ w m. record { no = λ p z b r s. at m (at_brackets p b r) r s };
}
  where
    at : {w : Place} {p : Tree} {z : Place} → Moves (pun "[") w x → AtBrackets p → Staged v false (Pat Assigns) w p z → Shallow (outer e) (part_depth p) → ⊥
    at {z = z} m (in_array {ts}) r s = n.slots.no ts z (past_sign m (array_whole r)) (node_shallow e true refl of_so_far r s)
    at {w} m in_object r s = never_both Punctuator Punctuator (codes "[") (codes "{") w refl (found_at (sym m.is) m.found) (object_led r)

pub array_placed : {x y : Here} {at : Option Span} {q : Items} {c : Cover} → IsPlacedItems q x y → view_cover c ≡ node (expression Array) (part (list (view_items q)) none) → told_cover c ≡ told_node at (told_list (told_items q) ∷ []) → c.is_expr ≡ q.are_exprs → c.may_turn ≡ q.may_turn → ((w : Here) → begin_of x ≡ next_of w → Spans at (next_of w) (end_of y)) → IsPlacedCoverBehind (pun "[") x c y
array_placed {x} {y} {at} {q} {c} o is told e may spanned = record {
  on = λ w k b. record {
    expr = λ f. placed_as told is (array_row k (o.expr (sym e ∙ f)) (spanned w b));
    element = λ p t.
        let a = array_of (bare_array t.turns is) is in
        placed_as (λ j. retold (is j) (told j)) a.is (array_pattern_placed k (o.slots (part (list a.slots) none) (record { may = sym may ∙ t.may; slots = a.slots; is = refl; turns = a.turns })) (spanned w b));
  };
}

-- ---- an object

object_pattern : {v : Surroundings} {x y : Place} {q : Members} {c : Cover} → CoversMembers v x q y → view_cover c ≡ node (expression Object) (part (list (view_members q)) none) → c.may_turn ≡ q.may_turn → (w : Place) → Moves (pun "{") w x → IsPatternCover v w c y
object_pattern {v} {x} {y} {q} {c} o is may w m = record { reads = λ p t b. reads t; alone = λ p z b r. at (at_brackets p b r) r }
  where
    reads : {p : Tree} → IsTurned c p → Staged v false (Pat Assigns) w p y
    reads {p} t =
        let a = object_of t.turns is in
        let row = o.reads (part (list a.parts) none) (record { may = sym may ∙ t.may; parts = a.parts; is = refl; turns = a.turns }) in
        let whole : Walk (Whole so_far) (steady v) object_row_of w (part (list a.parts) none) y = next (sign (sym m.is) m.found) row in
        subst (λ u. Staged v false (Pat Assigns) w u y) (sym a.is)
        (of_so_far.to_node (function (ObjectPat Assigns)) refl (record { walk = loosen (moved (λ b h. sym (free_around b (part (list a.parts) none) v h)) refl whole); keeps = and_both _ _ (plain_row object_row_of refl (to_grammar of_so_far whole)) refl }))

    at : {p : Tree} {z : Place} → AtBrackets p → Staged v false (Pat Assigns) w p z → IsTurned c p × (y ≡ z)
    at {z = z} (in_object {ts}) r =
        let s = o.alone ts z (past_sign m (object_whole r)) in
        (record { may = may ∙ s.0.may; turns = subst (λ u. Turns u (node (function (ObjectPat Assigns)) ts)) (sym is) (subst (λ us. Turns (node (expression Object) (part (list (view_members q)) none)) (node (function (ObjectPat Assigns)) us)) (sym s.0.is) (turn_object s.0.turns)) }, s.1)
    at in_array r = absurd (never_both Punctuator Punctuator (codes "{") (codes "[") w refl (found_at (sym m.is) m.found) (array_led r))

-- the code asks whether there are two
pub unless_two : (e b : Bool) {d : Bool} → d ≡ not b → (e && not d) ≡ (e && b)
unless_two e b {d} f = ap (λ g. e && not g) f ∙ ap (λ g. e && g) (twice b)
  where
    twice : (g : Bool) → not (not g) ≡ g
    twice true = refl
    twice false = refl

first_half : (a b : Bool) → (a && b) ≡ true → a ≡ true
first_half true b e = refl
first_half false b e = cc

second_half : (a b : Bool) → (a && b) ≡ true → b ≡ true
second_half true b e = e
second_half false b e = cc

-- whether one `__proto__: a` stands in it at most
pub object_cover : {v : Surroundings} {x y : Place} {q : Members} {c : Cover} → CoversMembers v x q y → view_cover c ≡ node (expression Object) (part (list (view_members q)) none) → c.is_expr ≡ (q.are_exprs && at_most 1 is_proto (view_members q)) → c.may_turn ≡ q.may_turn → OpensCover v (pun "{") c x y
object_cover {v} {x} {y} {q} {c} o is e may = record {
  expr = λ f. opened_by (expression Object) refl refl (object_node (o.expr (first_half q.are_exprs _ (sym e ∙ f))) (second_half q.are_exprs _ (sym e ∙ f)) is) (of_object (Other v x (expression Object)) itself);
  none = λ f. record { no = of_object (λ j. NoParts v j x Unread) (free_none (expression Object) refl (none q.are_exprs refl (sym e ∙ f))) };
  pattern = object_pattern o is may;
  literal = λ f. ap is_literal is;
  other = λ f. cc;
  may = λ f. absurd (clash _ (ap is_literal is) f);
  unsettled = λ f. ap is_literal is;
}
  where
    none : (b : Bool) → q.are_exprs ≡ b → (q.are_exprs && at_most 1 is_proto (view_members q)) ≡ false → NoNode so_far v (tail (row_so_far (expression Object))) (expression Object) x Unread
    none true g f = two_protos (o.expr g) (ap (λ d. d && at_most 1 is_proto (view_members q)) (sym g) ∙ f)
    none false g f = no_node (o.none g)

pub no_object_cover : {v : Surroundings} {x : Place} {e : Fault} → NoMembers v x e → NoCoverOpened v (pun "{") x e
no_object_cover {v} {x} {e = e} n = record {
  none = record { no = of_object (λ j. NoParts v j x e) (free_none (expression Object) refl (no_node n.members)) };
  pattern = λ w m. record { no = λ p z b r s. at m (at_brackets p b r) r s };
}
  where
    at : {w : Place} {p : Tree} {z : Place} → Moves (pun "{") w x → AtBrackets p → Staged v false (Pat Assigns) w p z → Shallow (outer e) (part_depth p) → ⊥
    at {z = z} m (in_object {ts}) r s = n.parts.no ts z (past_sign m (object_whole r)) (node_shallow e true refl of_so_far r s)
    at {w} m in_array r s = never_both Punctuator Punctuator (codes "{") (codes "[") w refl (found_at (sym m.is) m.found) (array_led r)

pub object_placed : {x y : Here} {at : Option Span} {q : Members} {c : Cover} → IsPlacedMembers q x y → view_cover c ≡ node (expression Object) (part (list (view_members q)) none) → told_cover c ≡ told_node at (told_list (told_members q) ∷ []) → (c.is_expr ≡ true → q.are_exprs ≡ true) → c.may_turn ≡ q.may_turn → ((w : Here) → begin_of x ≡ next_of w → Spans at (next_of w) (end_of y)) → IsPlacedCoverBehind (pun "{") x c y
object_placed {x} {y} {at} {q} {c} o is told e may spanned = record {
  on = λ w k b. record {
    expr = λ f. placed_as told is (object_row k (o.expr (e f)) (spanned w b));
    element = λ p t.
        let a = object_of (bare_object t.turns is) is in
        placed_as (λ j. retold (is j) (told j)) a.is (object_pattern_placed k (o.parts (part (list a.parts) none) (record { may = sym may ∙ t.may; parts = a.parts; is = refl; turns = a.turns })) (spanned w b));
  };
}
