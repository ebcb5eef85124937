use Rattle.std.proofs.Common.{◌≡◌, [], ◌∷◌, ◌++◌, length, map, append_assoc, append-nil, false, refl, rules, sym, ◌∙◌, ap, subst, arith}
use Rattle.std.proofs.lemmas.Result.{IfOk-weaker}
use Rattle.std.specs.Vec.Iter.{into_iter_items}
use Rattle.jsx_tree.specs.Kinds.{Assigns, Spread, expression, node, none, part}
use Rattle.jsx_tree.specs.Grows.{as_target}
use Rattle.jsx_tree.specs.Spans.{no_tales, tale, tells}
use Rattle.jsx_tree.specs.Told.{tales, told_expr, told_key, told_node, told_pat, told_prop}
use Rattle.jsx_tree.specs.View.{forest, inside, view_expr, view_key, view_target}
use Rattle.jsx_make.specs.Members.{view_prop}
use Rattle.jsx_make.specs.NodeSpans.{member_at}
use Rattle.jsx_operand.specs.Climbing.{is_target}
use Rattle.jsx_operand.specs.Taken.{IsPairOf, IsToldOf, behind_first, paired}
use Rattle.jsx_operand.specs.Turning.{IsAssignOf, Turns, TurnsElement, TurnsParts, TurnsSlots, assigned, is_array, is_assign, is_elision, is_object, is_spread, parts_none, retold, retold_each, retold_part, retold_parts, slot, slots_none, turn_plain}
use Rattle.jsx_operand.proofs.Steps.{plainly}
use Rattle.jsx_operand.proofs.Turners.{array_turns, each_retold, element_refused, emptied, filled_turns, hole_turns, lighter_among, list_lighter, made_past, none_of, nothing_turns, object_turns, pair_retold, pair_turns, part_lighter, parts_past, parts_refused, parts_retold, rest_refused, rest_turns, slot_refused, slots_past, slots_refused, some_of, target_turns, value_lighter}
use Rattle.jsx_operand.proofs.turn.+turned.Goals as goal

pub turned-turned_slots-requires : goal.turned-turned_slots-requires
turned-turned_slots-requires t c = omega (arith, list_lighter (sym (ap view_expr c.deref_mut.ensures.value) ∙ c.in-Some.ensures.taken))

pub turned-returns-in-Some-clause-read : goal.turned-returns-in-Some-clause-read
turned-returns-in-Some-clause-read t c = array_turns (sym (ap view_expr c.deref_mut.ensures.value) ∙ c.in-Some.ensures.taken) c.in_ok-array_pattern.ensures.assigns c.in_ok-slots.ensures.read

pub turned-turned_parts-requires : goal.turned-turned_parts-requires
turned-turned_parts-requires t c =
    let e : c.deref_mut-2.result.now ≡ c.args.expr.value = c.deref_mut-2.ensures.value ∙ (c.in_default.ensures.stays ∙ c.deref_mut.ensures.value) in
    omega (arith, list_lighter (sym (ap view_expr e) ∙ c.in-Some-taken_members.ensures.taken))

pub turned-returns-in-Some-taken_members-clause-read : goal.turned-returns-in-Some-taken_members-clause-read
turned-returns-in-Some-taken_members-clause-read t c =
    let e : c.deref_mut-2.result.now ≡ c.args.expr.value = c.deref_mut-2.ensures.value ∙ (c.in_default.ensures.stays ∙ c.deref_mut.ensures.value) in
    object_turns (sym (ap view_expr e) ∙ c.in-Some-taken_members.ensures.taken) c.in_ok-object_pattern.ensures.assigns c.in_ok-parts.ensures.read

pub turned-returns-then-not-is_target-clause-refused : goal.turned-returns-then-not-is_target-clause-refused
turned-returns-then-not-is_target-clause-refused t c =
    let e : c.deref_mut-2.result.now ≡ c.args.expr.value = c.deref_mut-2.ensures.value ∙ (c.in_default.ensures.stays ∙ c.deref_mut.ensures.value) in
    let f : c.deref-2.result.now ≡ c.args.expr.value = c.deref-2.ensures ∙ (c.in_default-taken_members.ensures.stays ∙ e) in
    record {
      bars = λ at k _. nothing_turns (ap (λ x. is_array (view_expr x)) (sym c.deref_mut.ensures.value) ∙ c.in_default.ensures.other)
          (ap (λ x. is_object (view_expr x)) (sym e) ∙ c.in_default-taken_members.ensures.other) (ap (λ x. is_target (view_expr x)) (sym f) ∙ (sym c.is_target.ensures ∙ c.if-not-is_target.true));
    }

pub turned-returns-clause-read : goal.turned-returns-clause-read
turned-returns-clause-read t c =
    let e : c.deref_mut-2.result.now ≡ c.args.expr.value = c.deref_mut-2.ensures.value ∙ (c.in_default.ensures.stays ∙ c.deref_mut.ensures.value) in
    let f : c.deref-2.result.now ≡ c.args.expr.value = c.deref-2.ensures ∙ (c.in_default-taken_members.ensures.stays ∙ e) in
    target_turns (ap (λ x. is_target (view_expr x)) (sym f) ∙ (sym c.is_target.ensures ∙ c.if-not-is_target.false))
    (c.in_ok-target_of.ensures.view Assigns ∙ ap (λ x. as_target (view_expr x)) (c.in_default-taken_members.ensures.stays ∙ e))

pub turned_element-returns-in_default-clause-read : goal.turned_element-returns-in_default-clause-read
turned_element-returns-in_default-clause-read t c =
    let e = none_of (c.taken_target.new.expr ≡ c.deref_mut.result.now) c.in_default.is c.in_ok-target.ensures.stays ∙ c.deref_mut.ensures.value in
    IfOk-weaker c.turned.result (λ p. Turns (view_expr c.taken_target.new.expr) (view_target p.value)) (λ p. TurnsElement (view_expr c.args.expr.value) (view_target p.value))
    (λ p d. turn_plain (subst (λ x. Turns (view_expr x) (view_target p.value)) e d)) c.turned.ensures.read

pub turned_element-returns-in_default-clause-refused : goal.turned_element-returns-in_default-clause-refused
turned_element-returns-in_default-clause-refused t c =
    let e = none_of (c.taken_target.new.expr ≡ c.deref_mut.result.now) c.in_default.is c.in_ok-target.ensures.stays ∙ c.deref_mut.ensures.value in
    let other = none_of (is_assign (view_expr c.deref_mut.result.now) ≡ false) c.in_default.is c.in_ok-target.ensures.other in
    record { bars = λ at k w'. element_refused (ap (λ x. is_assign (view_expr x)) (sym c.deref_mut.ensures.value) ∙ other) (λ p d. c.turned.ensures.refused.bars at k w' p (subst (λ x. Turns (view_expr x) p) (sym e) d)) }

pub turned_element-returns-clause-read : goal.turned_element-returns-clause-read
turned_element-returns-clause-read t c =
    let i = some_of (λ p. IsAssignOf (view_target p.value) (view_expr c.deref_mut.result.now) (view_expr c.taken_target.new.expr)) c.in-Some.is c.in_ok-target.ensures.taken in
    let a = some_of (λ v. assigned (view_expr c.deref_mut-2.result.now) ≡ part (view_expr v.value) none) c.in-Some-2.is c.in_ok-value.ensures.taken in
    filled_turns (subst (λ x. IsAssignOf (view_target c.in-Some.target.value) (view_expr x) (view_expr c.taken_target.new.expr)) c.deref_mut.ensures.value i)
    (ap (λ x. assigned (view_expr x)) (sym c.deref_mut-2.ensures.value) ∙ a) (c.in_ok-with_default.ensures.view Assigns)

pub turned_part-turned_element-requires : goal.turned_part-turned_element-requires
turned_part-turned_element-requires t c =
    let i = subst (λ m. IsPairOf (view_key c.in-Some.key) (view_prop m) (view_prop c.taken_key.new.member)) c.deref_mut.ensures.value c.in-Some.ensures.taken in
    let a = ap (λ m. paired (view_prop m)) (sym c.deref_mut-2.ensures.value) ∙ some_of (λ v. paired (view_prop c.deref_mut-2.result.now) ≡ part (view_expr v.value) none) c.in-Some-2.is c.in_ok-value.ensures.taken in
    omega (arith, value_lighter i a)

pub turned_part-returns-clause-read : goal.turned_part-returns-clause-read
turned_part-returns-clause-read t c =
    let i = subst (λ m. IsPairOf (view_key c.in-Some.key) (view_prop m) (view_prop c.taken_key.new.member)) c.deref_mut.ensures.value c.in-Some.ensures.taken in
    let a = ap (λ m. paired (view_prop m)) (sym c.deref_mut-2.ensures.value) ∙ some_of (λ v. paired (view_prop c.deref_mut-2.result.now) ≡ part (view_expr v.value) none) c.in-Some-2.is c.in_ok-value.ensures.taken in
    pair_turns i a (c.in_ok-pair_pattern.ensures.view Assigns) c.in_ok-value-2.ensures.read

pub turned_part-returns-clause-told : goal.turned_part-returns-clause-told
turned_part-returns-clause-told t c =
    let i = subst (λ m. IsPairOf (view_key c.in-Some.key) (view_prop m) (view_prop c.taken_key.new.member)) c.deref_mut.ensures.value c.in-Some.ensures.taken in
    let a = ap (λ m. paired (view_prop m)) (sym c.deref_mut-2.ensures.value) ∙ some_of (λ v. paired (view_prop c.deref_mut-2.result.now) ≡ part (view_expr v.value) none) c.in-Some-2.is c.in_ok-value.ensures.taken in
    let b = ap (λ m. behind_first (told_prop m)) (sym c.deref_mut-2.ensures.value) ∙ some_of (λ v. behind_first (told_prop c.deref_mut-2.result.now) ≡ tale (told_expr v.value) no_tales) c.in-Some-2.is c.in_ok-value.ensures.told in
    pair_retold i a (subst (λ m. IsToldOf (told_key c.in-Some.key) (member_at m) (told_prop m) (told_prop c.taken_key.new.member)) c.deref_mut.ensures.value c.in-Some.ensures.told) b
    (c.in_ok-pair_pattern.ensures.told ∙ ap (λ s. told_node s (told_key c.in-Some.key ∷ told_pat c.in_ok-value-2.value.value ∷ [])) (c.span_of_member-span.ensures ∙ ap member_at c.deref.ensures)) c.in_ok-value-2.ensures.told

pub turned_slot-returns-then-is_hole-clause-read : goal.turned_slot-returns-then-is_hole-clause-read
turned_slot-returns-then-is_hole-clause-read t c = hole_turns (ap view_expr (sym c.deref.ensures) ∙ c.is_hole.ensures.seen c.if-is_hole.true) (c.in_ok-pattern_hole.ensures.view Assigns)

pub turned_slot-returns-in_default-clause-read : goal.turned_slot-returns-in_default-clause-read
turned_slot-returns-in_default-clause-read t c =
    let e = none_of (c.taken_spread.new.expr ≡ c.deref_mut.result.now) c.in_default.is c.in_ok-inner.ensures.stays ∙ c.deref_mut.ensures.value in
    IfOk-weaker c.turned_element.result (λ p. TurnsElement (view_expr c.taken_spread.new.expr) (view_target p.value)) (λ p. TurnsSlots (part (view_expr c.args.item.value) none) (part (view_target p.value) none))
    (λ p d. slot (subst (λ x. TurnsElement (view_expr x) (view_target p.value)) e d) slots_none) c.turned_element.ensures.read

pub turned_slot-returns-in_default-clause-refused : goal.turned_slot-returns-in_default-clause-refused
turned_slot-returns-in_default-clause-refused t c =
    let e = none_of (c.taken_spread.new.expr ≡ c.deref_mut.result.now) c.in_default.is c.in_ok-inner.ensures.stays ∙ c.deref_mut.ensures.value in
    let other = none_of (is_spread (view_expr c.deref_mut.result.now) ≡ false) c.in_default.is c.in_ok-inner.ensures.other in
    record {
      bars = λ at k w'. slot_refused (ap (λ x. is_elision (view_expr x)) (sym c.deref.ensures) ∙ (sym c.is_hole.ensures.is ∙ c.if-is_hole.false)) (ap (λ x. is_spread (view_expr x)) (sym c.deref_mut.ensures.value) ∙ other)
          (λ p d. c.turned_element.ensures.refused.bars at k w' p (subst (λ x. TurnsElement (view_expr x) p) (sym e) d));
    }

pub turned_slot-turned-requires : goal.turned_slot-turned-requires
turned_slot-turned-requires t c =
    let s = some_of (λ e. view_expr c.deref_mut.result.now ≡ node (expression Spread) (part (view_expr e.value) none)) c.in-Some.is c.in_ok-inner.ensures.taken in
    omega (arith, part_lighter (sym (ap view_expr c.deref_mut.ensures.value) ∙ s))

pub turned_slot-returns-in_err-target-clause-refused : goal.turned_slot-returns-in_err-target-clause-refused
turned_slot-returns-in_err-target-clause-refused t c =
    let s = some_of (λ e. view_expr c.deref_mut.result.now ≡ node (expression Spread) (part (view_expr e.value) none)) c.in-Some.is c.in_ok-inner.ensures.taken in
    plainly _ c.in_err-target.ensures.refused c.from_residual-in_err-target.ensures.1 (rest_refused (sym (ap view_expr c.deref_mut.ensures.value) ∙ s))

pub turned_slot-returns-clause-read : goal.turned_slot-returns-clause-read
turned_slot-returns-clause-read t c =
    let s = some_of (λ e. view_expr c.deref_mut.result.now ≡ node (expression Spread) (part (view_expr e.value) none)) c.in-Some.is c.in_ok-inner.ensures.taken in
    rest_turns (sym (ap view_expr c.deref_mut.ensures.value) ∙ s) (c.in_ok-rest.ensures.view Assigns) c.in_ok-target.ensures.read

pub turned_slots-items-init : goal.turned_slots-items-init
turned_slots-items-init t c = record {
  all = refl;
  left = search rules;
  read = subst (λ ys. TurnsSlots none (forest (map (inside view_target) ys))) (sym c.in_ok-slots.ensures.items) slots_none;
  told = ap (map (inside told_pat)) c.in_ok-slots.ensures.items;
}

pub turned_slots-turned_slot-requires : goal.turned_slots-turned_slot-requires
turned_slots-turned_slot-requires t c =
    let at = c.items in
    let steps : into_iter_items at.item-iterator ≡ c.in-Some.item ∷ into_iter_items c.next.new.self = c.in-Some.ensures.steps.0 in
    let all = ap (λ z. at.yielded ++ z) (sym steps) ∙ (at.invariant.all ∙ c.into_iter-item-iterator.ensures.into_iter_gives.0) in
    omega (arith, lighter_among (inside view_expr) at.yielded c.in-Some.item (into_iter_items c.next.new.self) all)

pub turned_slots-returns-in_err-slot-clause-refused : goal.turned_slots-returns-in_err-slot-clause-refused
turned_slots-returns-in_err-slot-clause-refused t c =
    let at = c.items in
    let steps : into_iter_items at.item-iterator ≡ c.in-Some.item ∷ into_iter_items c.next.new.self = c.in-Some.ensures.steps.0 in
    let all = ap (λ z. at.yielded ++ z) (sym steps) ∙ (at.invariant.all ∙ c.into_iter-item-iterator.ensures.into_iter_gives.0) in
    plainly _ c.in_err-slot.ensures.refused c.from_residual-in_err-slot.ensures.1 (slots_refused (inside view_expr) at.yielded c.in-Some.item (into_iter_items c.next.new.self) all)

pub turned_slots-items-preserved : goal.turned_slots-items-preserved
turned_slots-items-preserved t c =
    let at = c.items in
    let x = c.in-Some.item in
    let steps : into_iter_items at.item-iterator ≡ x ∷ into_iter_items c.next.new.self = c.in-Some.ensures.steps.0 in
    record {
      all = append_assoc at.yielded (x ∷ []) _ ∙ (ap (λ z. at.yielded ++ z) (sym steps) ∙ at.invariant.all);
      left = omega (arith, at.invariant.left, c.in-Some.ensures.steps.1, ap length steps);
      read = subst (λ ys. TurnsSlots (forest (map (inside view_expr) (at.yielded ++ x ∷ []))) (forest (map (inside view_target) ys))) (sym c.in_ok-push.ensures.items)
          (slots_past (inside view_expr) (inside view_target) at.yielded x at.slots.items c.in_ok-slot.slot at.invariant.read c.in_ok-slot.ensures.read);
      told = ap (map (inside told_pat)) c.in_ok-push.ensures.items
          ∙ made_past (inside told_pat) (λ e. retold (view_expr e.value) (told_expr e.value)) at.yielded x at.slots.items c.in_ok-slot.slot at.invariant.told c.in_ok-slot.ensures.told;
    }

pub turned_slots-returns-clause-read : goal.turned_slots-returns-clause-read
turned_slots-returns-clause-read t c =
    let at = c.items in
    let empty : into_iter_items at.item-iterator ≡ [] = emptied _ (sym at.invariant.left ∙ c.in-None.ensures.steps.0) in
    let all = sym (append-nil at.yielded) ∙ (ap (λ z. at.yielded ++ z) (sym empty) ∙ (at.invariant.all ∙ c.into_iter-item-iterator.ensures.into_iter_gives.0)) in
    subst (λ xs. TurnsSlots (forest (map (inside view_expr) xs)) (forest (map (inside view_target) at.slots.items))) all at.invariant.read

pub turned_slots-returns-clause-told : goal.turned_slots-returns-clause-told
turned_slots-returns-clause-told t c =
    let at = c.items in
    let empty : into_iter_items at.item-iterator ≡ [] = emptied _ (sym at.invariant.left ∙ c.in-None.ensures.steps.0) in
    let all = sym (append-nil at.yielded) ∙ (ap (λ z. at.yielded ++ z) (sym empty) ∙ (at.invariant.all ∙ c.into_iter-item-iterator.ensures.into_iter_gives.0)) in
    ap (λ ds. tells [] (tales ds)) at.invariant.told ∙ (ap (tells []) (each_retold (inside view_expr) (inside told_expr) at.yielded)
    ∙ ap (λ xs. tells [] (retold_each (forest (map (inside view_expr) xs)) (tales (map (inside told_expr) xs)))) all)

pub turned_parts-members-init : goal.turned_parts-members-init
turned_parts-members-init t c = record {
  all = refl;
  left = search rules;
  read = subst (λ ys. TurnsParts none (forest (map (inside view_target) ys))) (sym c.in_ok-parts.ensures.items) parts_none;
  told = ap (map (inside told_pat)) c.in_ok-parts.ensures.items;
}

pub turned_parts-turned_part-requires : goal.turned_parts-turned_part-requires
turned_parts-turned_part-requires t c =
    let at = c.members in
    let steps : into_iter_items at.member-iterator ≡ c.in-Some.member ∷ into_iter_items c.next.new.self = c.in-Some.ensures.steps.0 in
    let all = ap (λ z. at.yielded ++ z) (sym steps) ∙ (at.invariant.all ∙ c.into_iter-member-iterator.ensures.into_iter_gives.0) in
    omega (arith, lighter_among (inside view_prop) at.yielded c.in-Some.member (into_iter_items c.next.new.self) all)

pub turned_parts-returns-in_err-part-clause-refused : goal.turned_parts-returns-in_err-part-clause-refused
turned_parts-returns-in_err-part-clause-refused t c =
    let at = c.members in
    let steps : into_iter_items at.member-iterator ≡ c.in-Some.member ∷ into_iter_items c.next.new.self = c.in-Some.ensures.steps.0 in
    let all = ap (λ z. at.yielded ++ z) (sym steps) ∙ (at.invariant.all ∙ c.into_iter-member-iterator.ensures.into_iter_gives.0) in
    plainly _ c.in_err-part.ensures.refused c.from_residual-in_err-part.ensures.1 (parts_refused (inside view_prop) at.yielded c.in-Some.member (into_iter_items c.next.new.self) all)

pub turned_parts-members-preserved : goal.turned_parts-members-preserved
turned_parts-members-preserved t c =
    let at = c.members in
    let x = c.in-Some.member in
    let steps : into_iter_items at.member-iterator ≡ x ∷ into_iter_items c.next.new.self = c.in-Some.ensures.steps.0 in
    record {
      all = append_assoc at.yielded (x ∷ []) _ ∙ (ap (λ z. at.yielded ++ z) (sym steps) ∙ at.invariant.all);
      left = omega (arith, at.invariant.left, c.in-Some.ensures.steps.1, ap length steps);
      read = subst (λ ys. TurnsParts (forest (map (inside view_prop) (at.yielded ++ x ∷ []))) (forest (map (inside view_target) ys))) (sym c.in_ok-push.ensures.items)
          (parts_past (inside view_prop) (inside view_target) at.yielded x at.parts.items c.in_ok-part.part at.invariant.read c.in_ok-part.ensures.read);
      told = ap (map (inside told_pat)) c.in_ok-push.ensures.items
          ∙ made_past (inside told_pat) (λ m. retold_part (view_prop m.value) (told_prop m.value)) at.yielded x at.parts.items c.in_ok-part.part at.invariant.told c.in_ok-part.ensures.told;
    }

pub turned_parts-returns-clause-read : goal.turned_parts-returns-clause-read
turned_parts-returns-clause-read t c =
    let at = c.members in
    let empty : into_iter_items at.member-iterator ≡ [] = emptied _ (sym at.invariant.left ∙ c.in-None.ensures.steps.0) in
    let all = sym (append-nil at.yielded) ∙ (ap (λ z. at.yielded ++ z) (sym empty) ∙ (at.invariant.all ∙ c.into_iter-member-iterator.ensures.into_iter_gives.0)) in
    subst (λ xs. TurnsParts (forest (map (inside view_prop) xs)) (forest (map (inside view_target) at.parts.items))) all at.invariant.read

pub turned_parts-returns-clause-told : goal.turned_parts-returns-clause-told
turned_parts-returns-clause-told t c =
    let at = c.members in
    let empty : into_iter_items at.member-iterator ≡ [] = emptied _ (sym at.invariant.left ∙ c.in-None.ensures.steps.0) in
    let all = sym (append-nil at.yielded) ∙ (ap (λ z. at.yielded ++ z) (sym empty) ∙ (at.invariant.all ∙ c.into_iter-member-iterator.ensures.into_iter_gives.0)) in
    ap (λ ds. tells [] (tales ds)) at.invariant.told ∙ (ap (tells []) (parts_retold (inside view_prop) (inside told_prop) at.yielded)
    ∙ ap (λ xs. tells [] (retold_parts (forest (map (inside view_prop) xs)) (tales (map (inside told_prop) xs)))) all)
