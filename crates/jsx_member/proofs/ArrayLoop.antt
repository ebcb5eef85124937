-- The loop over an array's items up to its `]`, before it is known whether they are expressions or slots of a pattern: what it keeps of both rows, step by step (ECMA-262 sections 13.2.4 and 13.15.5).
use Rattle.std.proofs.Common.{◌≡◌, Bool, true, false, List, [], ◌∷◌, ◌++◌, map, refl, sym, ◌∙◌, ap, subst, Box, Vec, Global, Option}
use Rattle.std.specs.Prelude.{◌&&◌}
use Rattle.jsx_tree.specs.Kinds.{Spread, Assigns, expression, Tree, node, list, none, part}
use Rattle.jsx_tree.specs.Nonterminals.{ArrayItem, Slot}
use Rattle.jsx_tree.specs.Grammar.{Elisions, Fixed, Many, p, pun}
use Rattle.jsx_tree.specs.Reading.{Lost, forth, scan}
use Rattle.jsx_tree.specs.Spelling.{behind, spelled}
use Rattle.jsx_tree.specs.StaticRules.{Surroundings}
use Rattle.jsx_tree.specs.Spans.{Told, tells, tale, no_tales}
use Rattle.jsx_tree.specs.Told.{told_expr, told_node, tales}
use Rattle.jsx_tree.specs.View.{forest, inside, view_expr}
use Rattle.jsx_base.specs.declared.place.Span.{Span}
use Rattle.jsx_tree.specs.declared.tree.Expr.{Expr as Code}
use Rattle.jsx_tree.specs.Walk.{nothing}
use Rattle.jsx_tree.specs.Answers.{Moves, Stuck, Missed, Only, Barred}
use Rattle.jsx_tree.specs.Faults.{Fault}
use Rattle.jsx_tree.proofs.Tokens.{and_left}
use Rattle.jsx_token.specs.Here.{Here, place_of, sign_of}
use Rattle.jsx_token.specs.Places.{Takes, end_of, next_of}
use Rattle.jsx_token.specs.declared.lexer.Fixed.TheVariants as fixed
use Rattle.jsx_operand.specs.Covers.{view_cover}
use Rattle.jsx_operand.specs.SoFar.{so_far}
use Rattle.jsx_operand.specs.Spans.{IsPlacedRow, Spans}
use Rattle.jsx_operand.specs.Turning.{retold, retold_each, turn_plain}
use Rattle.jsx_operand.specs.declared.cover.Cover.{Cover}
use Rattle.jsx_operand.proofs.Placing.{IsItem as Lies, hole_item, map_pushed, placed_as, plain_elisions, row_end, row_list, row_sign}
use Rattle.jsx_operand.proofs.PlacedExpressions.{no_trailing, rest_pattern_row, spread_row, takes_trailing}
use Rattle.jsx_operand.proofs.Trees.{pushed, pushed_as}
use Rattle.jsx_member.specs.Covers.{CoversItems, IsItemCover, IsPlacedItem, IsPlacedItems, IsTurnedSlot, NoItemCover, NoItems}
use Rattle.jsx_function.specs.Covers.{IsCover, IsPlacedCover, told_cover}
use Rattle.jsx_function.specs.Elements.{is_hole}
use Rattle.jsx_member.specs.declared.literals.Items.{Items}
use Rattle.jsx_member.proofs.Aimed.{literal_items, pattern_slots}
use Rattle.jsx_member.proofs.CoverItems.{Before, Kept, filled_more, hole, hole_more, inside as within, kept_none, none_here, shut, shut_behind, trails, unshut}
use Rattle.jsx_member.proofs.ItemCovers.{AreAll, IsItem, TurnInto, all_none, as_element, cover_unspread, gap_items, gap_slots, item_fills, items_cover, items_longer, none_all, none_turn, rest_of, slot_case, slot_fills, slots_longer, turn_none}
use Rattle.jsx_member.proofs.PlacedRows.{ClosedAll, PlacedAll, all_last, all_more, closed_all, front_all, item_of}

-- ---- where one item stands

pub item_placed : {v : Surroundings} {x z : Here} {c : Cover} → IsCover v 1 (place_of x) c (place_of z) → is_hole (view_cover c) ≡ false → IsPlacedCover c x z → IsPlacedItem c x z
item_placed {c = c} o i k = record { expr = k.expr; slot = λ p q. k.element p (record { may = q.may; turns = as_element i (cover_unspread c o c.is_expr refl) (slot_case q.turns) }) }

pub spread_placed : {w x y : Here} {at : Option Span} {i c : Cover} (b : Bool) → Takes (sign_of fixed.Dots) w x → IsPlacedCover i x y → view_cover c ≡ node (expression Spread) (part (view_cover i) none) → told_cover c ≡ told_node at (told_cover i ∷ []) → Spans at (next_of w) (end_of y) → c.is_expr ≡ i.is_expr → c.may_turn ≡ (i.may_turn && b) → IsPlacedItem c w y
spread_placed {w} {x} {y} {at} {i} {c} b k o is told spans e may = record {
  expr = λ f. placed_as told is (spread_row k (o.expr (sym e ∙ f)) spans);
  slot = λ p q.
      let r = rest_of (slot_case q.turns) is in
      placed_as (λ j. retold (is j) (told j)) r.is (rest_pattern_row k (o.element r.target (record { may = and_left i.may_turn _ (sym may ∙ q.may); turns = turn_plain r.turns })) spans);
}

-- what is behind a look at the next token
pub item_to : {v : Surroundings} {x : _} {c : Cover} {y z : Here} → z ≡ y → IsItemCover v x c (place_of y) → IsItemCover v x c (place_of z)
item_to {v} {x} {c} e o = subst (λ h. IsItemCover v x c (place_of h)) (sym e) o

pub item_placed_to : {c : Cover} {x y z : Here} → z ≡ y → IsPlacedItem c x y → IsPlacedItem c x z
item_placed_to {c} {x} e k = subst (IsPlacedItem c x) (sym e) k

pub item_from : {c : Cover} {x y z : Here} → x ≡ y → IsPlacedItem c x z → IsPlacedItem c y z
item_from {c} {z = z} e k = subst (λ h. IsPlacedItem c h z) e k

-- ---- what the loop keeps

-- what is told of an item as a slot
abbrev pub retold_item : Box Code Global → Told
retold_item b = retold (inside view_expr b) (inside told_expr b)

pub record ItemsRead (v : Surroundings) (xs : List (Box Code Global)) (e m : Bool) (x y : Here) : Type 0 where
  pub exprs : Kept v (within ArrayItem) (place_of x) (AreAll e (forest (map (inside view_expr) xs))) (place_of y)
  pub slots : Kept v (within (Slot Assigns)) (place_of x) (TurnInto m (forest (map (inside view_expr) xs))) (place_of y)
  pub placed_exprs : PlacedAll Elisions (map (inside told_expr) xs) (AreAll e (forest (map (inside view_expr) xs))) x y
  pub placed_slots : PlacedAll Elisions (map retold_item xs) (TurnInto m (forest (map (inside view_expr) xs))) x y
  pub closed_exprs : ClosedAll Elisions (map (inside told_expr) xs) (AreAll e (forest (map (inside view_expr) xs))) x y
  pub closed_slots : ClosedAll Elisions (map retold_item xs) (TurnInto m (forest (map (inside view_expr) xs))) x y

pub items_none : {v : Surroundings} {xs : List (Box Code Global)} {x : Here} → xs ≡ [] → ItemsRead v xs true true x x
items_none {v} {xs} {x} e = subst (λ ys. ItemsRead v ys true true x x) (sym e) (record {
  exprs = kept_none (none_all refl) all_none;
  slots = kept_none (none_turn refl) turn_none;
  placed_exprs = front_all all_none;
  placed_slots = front_all turn_none;
  closed_exprs = closed_all all_none;
  closed_slots = closed_all turn_none;
})

missed : {y y' : Here} {s : _} → y' ≡ y → forth s (place_of y) ≡ Lost → Missed s (place_of y) (place_of y')
missed e n = record { same = sym (ap place_of e); stuck = record { is = n } }

-- a hole and its comma
pub items_hole : {v : Surroundings} {xs ys : List (Box Code Global)} (h : Box Code Global) {e m : Bool} {x y y' w : Here} → ItemsRead v xs e m x y → ys ≡ xs ++ h ∷ [] → inside view_expr h ≡ hole → inside told_expr h ≡ tells [] no_tales → y' ≡ y → forth (pun "]") (place_of y) ≡ Lost → place_of w ≡ forth (pun ",") (place_of y') → Takes (sign_of fixed.Comma) y' w → ItemsRead v ys e m x w
items_hole {v} {xs} {ys} h {e} {m} {x} {y} {y'} {w} r is view told same close comma takes =
    let grown = pushed_as (inside view_expr) xs ys h view is in
    let tolds = map_pushed (inside told_expr) xs ys h (tells [] no_tales) is told in
    let retolds = map_pushed retold_item xs ys h (tells [] no_tales) is ((λ j. retold (view j) (told j))) in
    let here : Takes (sign_of fixed.Comma) y w = subst (λ z. Takes (sign_of fixed.Comma) z w) same takes in
    record {
      exprs = hole_more literal_items (gap_items grown) r.exprs (missed same close) (record { is = comma; found = refl });
      slots = hole_more pattern_slots (gap_slots grown) r.slots (missed same close) (record { is = comma; found = refl });
      placed_exprs = all_more plain_elisions (gap_items grown) r.placed_exprs (λ t g. subst (λ u. Lies false (tells [] no_tales) u y y) g hole_item) here.same here.leads tolds;
      placed_slots = all_more plain_elisions (gap_slots grown) r.placed_slots (λ t g. subst (λ u. Lies false (tells [] no_tales) u y y) g hole_item) here.same here.leads retolds;
      closed_exprs = all_last plain_elisions (gap_items grown) r.placed_exprs (λ t g. subst (λ u. Lies false (tells [] no_tales) u y y) g hole_item) here.same (λ t g. subst (λ u. scan (place_of y) (behind Elisions (spelled u)) ≡ place_of w) g here.leads) tolds;
      closed_slots = all_last plain_elisions (gap_slots grown) r.placed_slots (λ t g. subst (λ u. Lies false (tells [] no_tales) u y y) g hole_item) here.same (λ t g. subst (λ u. scan (place_of y) (behind Elisions (spelled u)) ≡ place_of w) g here.leads) retolds;
    }

-- an item, where neither the `]` nor a comma comes first
pub record ItemRead (v : Surroundings) (c : Cover) (y z : Here) : Type 0 where
  pub item : IsItemCover v (place_of y) c (place_of z)
  pub placed : IsPlacedItem c y z
  pub no_close : Stuck (pun "]") (place_of y)
  pub no_comma : Stuck (pun ",") (place_of y)

pub item_read : {v : Surroundings} {c : Cover} {y y' y'' z : Here} → y' ≡ y → y'' ≡ y' → forth (pun "]") (place_of y) ≡ Lost → forth (pun ",") (place_of y') ≡ Lost → IsItemCover v (place_of y'') c (place_of z) → IsPlacedItem c y'' z → ItemRead v c y z
item_read {v} {c} {y} {y'} {y''} {z} e f close comma o k = record {
  item = subst (λ h. IsItemCover v (place_of h) c (place_of z)) (f ∙ e) o;
  placed = item_from (f ∙ e) k;
  no_close = record { is = close };
  no_comma = subst (λ h. Stuck (pun ",") (place_of h)) e (record { is = comma });
}

expr_before : {v : Surroundings} {c : Cover} {y z : Here} → ItemRead v c y z → Before v ArrayItem (place_of y) (IsItem c) (place_of z)
expr_before o = record { item = item_fills o.item; no_comma = o.no_comma; no_close = o.no_close }

slot_before : {v : Surroundings} {c : Cover} {y z : Here} → ItemRead v c y z → Before v (Slot Assigns) (place_of y) (IsTurnedSlot c) (place_of z)
slot_before o = record { item = slot_fills o.item; no_comma = o.no_comma; no_close = o.no_close }

expr_lies : {v : Surroundings} {c : Cover} {y z : Here} → ItemRead v c y z → (t : Tree) → IsItem c t → Lies false (told_cover c) t y z
expr_lies {c = c} {y} {z} o t q = subst (λ u. Lies false (told_cover c) u y z) q.is (item_of (o.placed.expr q.settled))

slot_lies : {v : Surroundings} {c : Cover} {y z : Here} → ItemRead v c y z → (t : Tree) → IsTurnedSlot c t → Lies false (retold (view_cover c) (told_cover c)) t y z
slot_lies o t q = item_of (o.placed.slot t q)

-- and its comma
pub items_more : {v : Surroundings} {xs ys : List (Box Code Global)} {c : Cover} {e m f n : Bool} {x y z w : Here} → ItemsRead v xs e m x y → ys ≡ xs ++ c.expr ∷ [] → ItemRead v c y z → place_of w ≡ forth (pun ",") (place_of z) → Takes (sign_of fixed.Comma) z w → f ≡ (e && c.is_expr) → n ≡ (m && c.may_turn) → ItemsRead v ys f n x w
items_more {v} {xs} {ys} {c} {e} {m} {f} {n} {x} {y} {z} {w} r is o comma takes settles turns =
    let grown = pushed (inside view_expr) xs ys c.expr is in
    let tolds = map_pushed (inside told_expr) xs ys c.expr (told_cover c) is refl in
    let retolds = map_pushed retold_item xs ys c.expr (retold (view_cover c) (told_cover c)) is refl in
    let moves : Moves (pun ",") (place_of z) (place_of w) = record { is = comma; found = refl } in
    record {
      exprs = filled_more literal_items (items_longer settles grown) r.exprs (expr_before o) moves;
      slots = filled_more pattern_slots (slots_longer turns grown) r.slots (slot_before o) moves;
      placed_exprs = all_more plain_elisions (items_longer settles grown) r.placed_exprs (expr_lies o) takes.same takes.leads tolds;
      placed_slots = all_more plain_elisions (slots_longer turns grown) r.placed_slots (slot_lies o) takes.same takes.leads retolds;
      closed_exprs = all_last plain_elisions (items_longer settles grown) r.placed_exprs (expr_lies o) takes.same (λ t q. trails t (item_fills o.item) q (takes_trailing takes)) tolds;
      closed_slots = all_last plain_elisions (slots_longer turns grown) r.placed_slots (slot_lies o) takes.same (λ t q. trails t (slot_fills o.item) q (takes_trailing takes)) retolds;
    }

-- ---- up to the `]`

retold_all : (xs : List (Box Code Global)) → retold_each (forest (map (inside view_expr) xs)) (tales (map (inside told_expr) xs)) ≡ tales (map retold_item xs)
retold_all [] = refl
retold_all (b ∷ xs) = ap (tale (retold_item b)) (retold_all xs)

both_placed : {all : Vec (Box Code Global) Global} {e m : Bool} {x y z : Here} (q : Items) → q ≡ record { all = all; are_exprs = e; may_turn = m } → ClosedAll Elisions (map (inside told_expr) all.items) (AreAll e (forest (map (inside view_expr) all.items))) x y → ClosedAll Elisions (map retold_item all.items) (TurnInto m (forest (map (inside view_expr) all.items))) x y → Takes (sign_of fixed.CloseBracket) y z → IsPlacedItems q x z
both_placed {all} {e} {m} {x} {y} {z} q is r s k = subst (λ o. IsPlacedItems o x z) (sym is) (record {
  expr = λ f. row_list (r.on _ (record { settled = f; is = refl })) (row_sign k row_end);
  slots = λ ts a. subst (λ us. IsPlacedRow (Many Elisions (Slot Assigns) ∷ p "]" ∷ []) (tale (tells [] (retold_each (forest (map (inside view_expr) all.items)) (tales (map (inside told_expr) all.items)))) no_tales) us x z) (sym a.is)
      (subst (λ es. IsPlacedRow (Many Elisions (Slot Assigns) ∷ p "]" ∷ []) (tale (tells [] es) no_tales) (part (list a.slots) none) x z) (sym (retold_all all.items)) (row_list (s.on a.slots (record { may = a.may; turns = a.turns })) (row_sign k row_end)));
})

-- nothing more stands there
pub items_shut : {v : Surroundings} {all : Vec (Box Code Global) Global} {e m : Bool} {x y : Here} (z : Here) (q : Items) → q ≡ record { all = all; are_exprs = e; may_turn = m } → ItemsRead v all.items e m x y → place_of z ≡ forth (pun "]") (place_of y) → CoversItems v (place_of x) q (place_of z)
items_shut z q is r close = items_cover q is (shut literal_items r.exprs (record { is = close; found = refl })) (shut pattern_slots r.slots (record { is = close; found = refl }))

pub items_shut_placed : {v : Surroundings} {all : Vec (Box Code Global) Global} {e m : Bool} {x y z : Here} (q : Items) → q ≡ record { all = all; are_exprs = e; may_turn = m } → ItemsRead v all.items e m x y → Takes (sign_of fixed.CloseBracket) y z → IsPlacedItems q x z
items_shut_placed q is r k = both_placed q is r.closed_exprs r.closed_slots k

-- or the last item with no comma behind it
pub items_last : {v : Surroundings} {xs : List (Box Code Global)} {all : Vec (Box Code Global) Global} {c : Cover} {e m f n : Bool} {x y z z' : Here} (w : Here) (q : Items) → q ≡ record { all = all; are_exprs = f; may_turn = n } → ItemsRead v xs e m x y → all.items ≡ xs ++ c.expr ∷ [] → ItemRead v c y z → z' ≡ z → forth (pun ",") (place_of z) ≡ Lost → Only so_far v (Fixed (pun "]")) (place_of z') nothing (place_of w) → f ≡ (e && c.is_expr) → n ≡ (m && c.may_turn) → CoversItems v (place_of x) q (place_of w)
items_last {xs = xs} {all} {c} w q is r grown o same comma close settles turns =
    let longer = pushed (inside view_expr) xs all.items c.expr grown in
    items_cover q is (shut_behind literal_items (items_longer settles longer) r.exprs (expr_before o) (missed same comma) close) (shut_behind pattern_slots (slots_longer turns longer) r.slots (slot_before o) (missed same comma) close)

pub items_last_placed : {v : Surroundings} {xs : List (Box Code Global)} {all : Vec (Box Code Global) Global} {c : Cover} {e m f n : Bool} {x y z z' w : Here} (q : Items) → q ≡ record { all = all; are_exprs = f; may_turn = n } → ItemsRead v xs e m x y → all.items ≡ xs ++ c.expr ∷ [] → ItemRead v c y z → z' ≡ z → forth (pun ",") (place_of z) ≡ Lost → Takes (sign_of fixed.CloseBracket) z' w → f ≡ (e && c.is_expr) → n ≡ (m && c.may_turn) → IsPlacedItems q x w
items_last_placed {xs = xs} {all} {c} {z = z} {z'} {w} q is r grown o same comma close settles turns =
    let longer = pushed (inside view_expr) xs all.items c.expr grown in
    let takes : Takes (sign_of fixed.CloseBracket) z w = subst (λ h. Takes (sign_of fixed.CloseBracket) h w) same close in
    both_placed q is
    (all_last plain_elisions (items_longer settles longer) r.placed_exprs (expr_lies o) refl (λ t g. trails t (item_fills o.item) g (no_trailing (place_of z) comma)) (map_pushed (inside told_expr) xs all.items c.expr (told_cover c) grown refl))
    (all_last plain_elisions (slots_longer turns longer) r.placed_slots (slot_lies o) refl (λ t g. trails t (slot_fills o.item) g (no_trailing (place_of z) comma)) (map_pushed retold_item xs all.items c.expr (retold (view_cover c) (told_cover c)) grown refl))
    takes

-- ---- what doesn't belong there

pub items_none_here : {v : Surroundings} {xs : List (Box Code Global)} {e m : Bool} {x y y' y'' : Here} {o : Fault} → ItemsRead v xs e m x y → y' ≡ y → y'' ≡ y' → forth (pun "]") (place_of y) ≡ Lost → forth (pun ",") (place_of y') ≡ Lost → NoItemCover v (place_of y'') o → NoItems v (place_of x) o
items_none_here r e f close comma n = record { items = none_here r.exprs (missed e close) (missed f comma) n.item; slots = none_here r.slots (missed e close) (missed f comma) n.slot }

pub items_unshut : {v : Surroundings} {xs : List (Box Code Global)} {c : Cover} {e m : Bool} {x y z z' : Here} {d : Fault} → ItemsRead v xs e m x y → ItemRead v c y z → z' ≡ z → forth (pun ",") (place_of z) ≡ Lost → Barred so_far v (Fixed (pun "]")) (place_of z') d → NoItems v (place_of x) d
items_unshut r o same comma n = record { items = unshut r.exprs (expr_before o) (missed same comma) n; slots = unshut r.slots (slot_before o) (missed same comma) n }
