use Rattle.std.proofs.Common.{◌≡◌, true, false, arith, map, refl, sym, ◌∙◌, ap, subst}
use Rattle.std.specs.Prelude.{codes, Err}
use Rattle.jsx_base.specs.Token.{IdentifierName, Operator, Punctuator}
use Rattle.jsx_tree.specs.Kinds.{Binds}
use Rattle.jsx_tree.specs.Grammar.{Commas, Elisions, pun}
use Rattle.jsx_tree.specs.View.{forest, inside, view_pat, view_pattern}
use Rattle.jsx_tree.specs.Told.{tales, told_pat}
use Rattle.jsx_token.specs.Here.{place_of, left}
use Rattle.jsx_token.specs.Places.{end_of, next_of}
use Rattle.jsx_make.specs.NodeSpans.{pat_at}
use Rattle.jsx_operand.specs.Spans.{IsPlacedListAs, Spans}
use Rattle.jsx_tree.proofs.Rows.Lists.{begun}
use Rattle.jsx_tree.proofs.Rows.Steps.{bar, built_2, no_sign, on, only_sign}
use Rattle.jsx_operand.proofs.Values.{settled_token, sign_ended}
use Rattle.jsx_operand.proofs.Steps.{passed, passed_in}
use Rattle.jsx_operand.proofs.Places.{spans_from}
use Rattle.jsx_operand.proofs.Patterns.{array_only, name_only, no_array, no_name_pattern, no_object, object_only, deep_pattern}
use Rattle.jsx_operand.proofs.Trees.{pushed, pushed_as}
use Rattle.jsx_operand.proofs.Placing.{PlacedFront, plain_commas, plain_elisions, hole_item, laid_more, laid_last, takes_from, row_end, row_quiet, row_sign, row_list, list_none, front_none, front_more, front_last, list_to, map_pushed, placed_as, placed_from, placed_to}
use Rattle.jsx_operand.proofs.PlacedExpressions.{array_pattern_placed, default_row, no_trailing, object_pattern_placed, pair_pattern_placed, rest_pattern_row, takes_trailing}
use Rattle.jsx_function.proofs.Defaults.{bare_element, no_default, no_pattern, outgrown_element, valued_element}
use Rattle.jsx_function.proofs.Params.{comma_unless, pattern_found, unless_comma}
use Rattle.jsx_function.proofs.Slots.{before, element_slot, filled_more, hole_more, no_rest_slot, no_slot, none_here, rest_slot, shut, shut_behind, trails, unshut}
use Rattle.jsx_function.proofs.PatternParts.{colon_moves, no_pair_value}
use Rattle.jsx_function.proofs.PatternParts as parts
use Rattle.std.specs.Str.{chars}
use Rattle.jsx_tree.specs.Signs.{Tok}
use Rattle.jsx_tree.specs.Reading.{forth}
use Rattle.jsx_operand.specs.Answers.{Refused}
use Rattle.jsx_operand.specs.Around.{around_of}
use Rattle.jsx_operand.specs.Outgrown.{Outgrown}
use Rattle.jsx_operand.proofs.Homes.{IsName, bindings, only_leaf}
use Rattle.jsx_operand.specs.Members.{is_word}
use Rattle.jsx_operand.proofs.Keys.{computed_only, computed_barred, key_as, literal_key}
use Rattle.jsx_operand.proofs.PlacedExpressions.{name_placed}
use Rattle.jsx_function.specs.Patterns.{OnlyPart}
use Rattle.jsx_function.proofs.grammar.Within.+binding.Goals as goal

pub binding-returns-in_err-levels-clause-refused : goal.binding-returns-in_err-levels-clause-refused
binding-returns-in_err-levels-clause-refused g t c = passed _ c.in_err-levels.ensures.refused c.from_residual.ensures.1 (λ b. deep_pattern b)

pub binding-returns-then-take-clause-read : goal.binding-returns-then-take-clause-read
binding-returns-then-take-clause-read g t c = array_only (record { is = c.take.ensures.taken c.if-take.true; found = refl }) c.in_ok-array_pattern.ensures.read

pub binding-returns-in_err-array_pattern-clause-refused : goal.binding-returns-in_err-array_pattern-clause-refused
binding-returns-in_err-array_pattern-clause-refused g t c = passed_in _ c.in_ok-levels.ensures.levels c.in_err-array_pattern.ensures.refused c.from_residual-in_err-array_pattern.ensures.1 (λ n. no_array (record { is = c.take.ensures.taken c.if-take.true; found = refl }) n)

pub binding-returns-then-take-clause-span : goal.binding-returns-then-take-clause-span
binding-returns-then-take-clause-span g t c = spans_from c.in_ok-array_pattern.ensures.span refl (c.take.ensures.begins c.if-take.true) refl

pub binding-returns-then-take-clause-placed : goal.binding-returns-then-take-clause-placed
binding-returns-then-take-clause-placed g t c = c.in_ok-array_pattern.ensures.placed.on _ (c.take.ensures.takes c.if-take.true) (c.take.ensures.begins c.if-take.true)

pub binding-returns-in_err-levels-2-clause-refused : goal.binding-returns-in_err-levels-2-clause-refused
binding-returns-in_err-levels-2-clause-refused g t c = passed _ c.in_err-levels-2.ensures.refused c.from_residual-in_err-levels-2.ensures.1 (λ b. deep_pattern b)

pub binding-returns-then-take-2-clause-read : goal.binding-returns-then-take-2-clause-read
binding-returns-then-take-2-clause-read g t c = object_only (record { same = sym (ap place_of (c.take.ensures.stays c.if-take.false)); stuck = record { is = c.take.ensures.missing c.if-take.false } }) (record { is = c.take-2.ensures.taken c.if-take-2.true; found = refl }) c.in_ok-object_pattern.ensures.read

pub binding-returns-in_err-object_pattern-clause-refused : goal.binding-returns-in_err-object_pattern-clause-refused
binding-returns-in_err-object_pattern-clause-refused g t c = passed_in _ c.in_ok-levels-2.ensures.levels c.in_err-object_pattern.ensures.refused c.from_residual-in_err-object_pattern.ensures.1 (λ n. no_object (record { same = sym (ap place_of (c.take.ensures.stays c.if-take.false)); stuck = record { is = c.take.ensures.missing c.if-take.false } }) (record { is = c.take-2.ensures.taken c.if-take-2.true; found = refl }) n)

pub binding-returns-then-take-2-clause-span : goal.binding-returns-then-take-2-clause-span
binding-returns-then-take-2-clause-span g t c = spans_from c.in_ok-object_pattern.ensures.span refl (c.take-2.ensures.begins c.if-take-2.true ∙ ap next_of (c.take.ensures.stays c.if-take.false)) refl

pub binding-returns-then-take-2-clause-placed : goal.binding-returns-then-take-2-clause-placed
binding-returns-then-take-2-clause-placed g t c = placed_from (c.take.ensures.stays c.if-take.false) (c.in_ok-object_pattern.ensures.placed.on _ (c.take-2.ensures.takes c.if-take-2.true) (c.take-2.ensures.begins c.if-take-2.true))

pub binding-returns-in_err-binding_identifier-clause-refused : goal.binding-returns-in_err-binding_identifier-clause-refused
binding-returns-in_err-binding_identifier-clause-refused g t c = passed _ c.in_err-binding_identifier.ensures.refused c.from_residual-in_err-binding_identifier.ensures.1 (λ b. no_name_pattern (record { same = sym (ap place_of (c.take.ensures.stays c.if-take.false)); stuck = record { is = c.take.ensures.missing c.if-take.false } }) (record { same = sym (ap place_of (c.take-2.ensures.stays c.if-take-2.false)); stuck = record { is = c.take-2.ensures.missing c.if-take-2.false } }) b)

pub binding-returns-clause-read : goal.binding-returns-clause-read
binding-returns-clause-read g t c = name_only (record { same = sym (ap place_of (c.take.ensures.stays c.if-take.false)); stuck = record { is = c.take.ensures.missing c.if-take.false } }) (record { same = sym (ap place_of (c.take-2.ensures.stays c.if-take-2.false)); stuck = record { is = c.take-2.ensures.missing c.if-take-2.false } }) c.in_ok-binding_identifier.ensures.read refl

pub binding-returns-clause-span : goal.binding-returns-clause-span
binding-returns-clause-span g t c = spans_from c.in_ok-binding_identifier.ensures.span refl (ap next_of (c.take-2.ensures.stays c.if-take-2.false ∙ c.take.ensures.stays c.if-take.false)) refl

pub binding-returns-clause-placed : goal.binding-returns-clause-placed
binding-returns-clause-placed g t c = placed_from (c.take-2.ensures.stays c.if-take-2.false ∙ c.take.ensures.stays c.if-take.false) c.in_ok-binding_identifier.ensures.placed

pub rest_pattern-returns-in_err-target-clause-refused : goal.rest_pattern-returns-in_err-target-clause-refused
rest_pattern-returns-in_err-target-clause-refused g t c = passed _ c.in_err-target.ensures.refused c.from_residual.ensures.1 (λ b. bar b)

pub rest_pattern-returns-then-is_before-clause-refused : goal.rest_pattern-returns-then-is_before-clause-refused
rest_pattern-returns-then-is_before-clause-refused g t c = record {
  bars = λ _ _ _. on c.in_ok-target.ensures.read (bar (no_sign (record { is = comma_unless (place_of c.binding.new.lexer) (sym c.is_before.ensures.ahead ∙ c.if-is_before.true) })));
}

pub rest_pattern-returns-clause-read : goal.rest_pattern-returns-clause-read
rest_pattern-returns-clause-read g t c = built_2 refl c.in_ok-target.ensures.read
    (only_sign (record { is = ap place_of c.is_before.ensures.stays ∙ sym (unless_comma (place_of c.binding.new.lexer) (sym c.is_before.ensures.ahead ∙ c.if-is_before.false) (pattern_found c.in_ok-target.ensures.read)); found = refl })) (c.in_ok-rest.ensures.view Binds)

pub rest_pattern-returns-clause-placed : goal.rest_pattern-returns-clause-placed
rest_pattern-returns-clause-placed g t c = record {
  on = λ w sign begins. placed_to c.is_before.ensures.stays (placed_as c.in_ok-rest.ensures.told (c.in_ok-rest.ensures.view Binds) (rest_pattern_row sign c.in_ok-target.ensures.placed (spans_from c.span_to.ensures refl (c.last_place-lo.ensures ∙ begins) (ap end_of c.is_before.ensures.stays))));
}

pub element-returns-in_err-target-clause-refused : goal.element-returns-in_err-target-clause-refused
element-returns-in_err-target-clause-refused g t c = passed _ c.in_err-target.ensures.refused c.from_residual.ensures.1 (λ b. no_pattern b)

pub element-returns-then-not-take-clause-read : goal.element-returns-then-not-take-clause-read
element-returns-then-not-take-clause-read g t c = bare_element c.in_ok-target.ensures.read (record { same = sym (ap place_of (c.take.ensures.stays c.if-not-take.true)); stuck = record { is = c.take.ensures.missing c.if-not-take.true } })

pub element-returns-then-not-take-clause-placed : goal.element-returns-then-not-take-clause-placed
element-returns-then-not-take-clause-placed g t c = placed_to (c.take.ensures.stays c.if-not-take.true) c.in_ok-target.ensures.placed

pub element-returns-in_err-levels-clause-refused : goal.element-returns-in_err-levels-clause-refused
element-returns-in_err-levels-clause-refused g t c = passed _ (subst (λ p. Refused c.args.context.levels (Err c.in_err-levels.field-0.0) (Outgrown (view_pattern p Binds))) c.deref.ensures c.in_err-levels.ensures.binds) c.from_residual-in_err-levels.ensures.1 (λ b. outgrown_element c.in_ok-target.ensures.read (record { is = c.take.ensures.taken c.if-not-take.false; found = refl }) b)

pub element-returns-in_err-value-clause-refused : goal.element-returns-in_err-value-clause-refused
element-returns-in_err-value-clause-refused g t c = passed_in _ c.in_ok-levels.ensures.levels c.in_err-value.ensures.refused c.from_residual-in_err-value.ensures.1 (λ b. no_default c.in_ok-target.ensures.read (record { is = c.take.ensures.taken c.if-not-take.false; found = refl }) b)

pub element-returns-clause-read : goal.element-returns-clause-read
element-returns-clause-read g t c = valued_element c.in_ok-target.ensures.read (record { is = c.take.ensures.taken c.if-not-take.false; found = refl }) c.in_ok-value.ensures.read (c.in_ok-with_default.ensures.view Binds)

pub element-returns-clause-placed : goal.element-returns-clause-placed
element-returns-clause-placed g t c = placed_as c.in_ok-with_default.ensures.told (c.in_ok-with_default.ensures.view Binds) (default_row c.in_ok-target.ensures.placed (c.take.ensures.takes c.if-not-take.false) c.in_ok-value.ensures.placed
    (spans_from c.span_to-span.ensures refl (c.start_of_pattern.ensures.on _ _ (subst (λ p. Spans (pat_at p) (next_of c.args.lexer.now) (end_of c.binding.new.lexer)) (sym c.deref-2.ensures) c.in_ok-target.ensures.span)) refl))

pub pattern_slot-returns-in_err-rest_pattern-clause-refused : goal.pattern_slot-returns-in_err-rest_pattern-clause-refused
pattern_slot-returns-in_err-rest_pattern-clause-refused g t c = passed _ c.in_err-rest_pattern.ensures.refused c.from_residual.ensures.1 (λ n. no_rest_slot (record { is = c.take.ensures.taken c.if-take.true; found = refl }) n)

pub pattern_slot-returns-then-take-clause-read : goal.pattern_slot-returns-then-take-clause-read
pattern_slot-returns-then-take-clause-read g t c = rest_slot (record { is = c.take.ensures.taken c.if-take.true; found = refl }) c.in_ok-rest_pattern.ensures.read

pub pattern_slot-returns-then-take-clause-placed : goal.pattern_slot-returns-then-take-clause-placed
pattern_slot-returns-then-take-clause-placed g t c = c.in_ok-rest_pattern.ensures.placed.on _ (c.take.ensures.takes c.if-take.true) (c.take.ensures.begins c.if-take.true)

pub pattern_slot-returns-in_err-element-clause-refused : goal.pattern_slot-returns-in_err-element-clause-refused
pattern_slot-returns-in_err-element-clause-refused g t c = passed _ c.in_err-element.ensures.refused c.from_residual-in_err-element.ensures.1 (λ n. no_slot (record { same = sym (ap place_of (c.take.ensures.stays c.if-take.false)); stuck = record { is = c.take.ensures.missing c.if-take.false } }) n)

pub pattern_slot-returns-clause-read : goal.pattern_slot-returns-clause-read
pattern_slot-returns-clause-read g t c = element_slot (record { same = sym (ap place_of (c.take.ensures.stays c.if-take.false)); stuck = record { is = c.take.ensures.missing c.if-take.false } }) c.in_ok-element.ensures.read

pub pattern_slot-returns-clause-placed : goal.pattern_slot-returns-clause-placed
pattern_slot-returns-clause-placed g t c = placed_from (c.take.ensures.stays c.if-take.false) c.in_ok-element.ensures.placed

pub pattern_slots-slots-init : goal.pattern_slots-slots-init
pattern_slots-slots-init g t c = record {
  so_far = begun _ (ap (λ xs. forest (map (inside view_pat) xs)) c.new-all.ensures.items);
  placed = subst (λ xs. PlacedFront false Elisions (map (inside told_pat) xs) (map (inside view_pat) xs) c.args.lexer.now c.args.lexer.now) (sym c.new-all.ensures.items) front_none;
  closed = subst (λ xs. IsPlacedListAs false Elisions (tales (map (inside told_pat) xs)) (forest (map (inside view_pat) xs)) c.args.lexer.now c.args.lexer.now) (sym c.new-all.ensures.items) list_none;
  within = omega arith;
}

pub pattern_slots-slots-preserved-in-Continue-branch-2 : goal.pattern_slots-slots-preserved-in-Continue-branch-2
pattern_slots-slots-preserved-in-Continue-branch-2 g t c =
    let same : left c.take.new.self ≡ left c.slots.lexer = ap left (c.take.ensures.stays c.slots-test.true) in
    let comma = takes_from (c.take.ensures.stays c.slots-test.true) (c.take-in-slots.ensures.takes c.if-take.true) in
    let told_all = map_pushed (inside told_pat) c.slots.all.items _ c.in_ok-hole.hole _ c.in_ok-push.ensures.items c.in_ok-hole.ensures.told in
    let view_all = map_pushed (inside view_pat) c.slots.all.items _ c.in_ok-hole.hole _ c.in_ok-push.ensures.items (c.in_ok-hole.ensures.view Binds) in
    record {
      so_far = hole_more _ _ c.slots.invariant.so_far (record { same = sym (ap place_of (c.take.ensures.stays c.slots-test.true)); stuck = record { is = c.take.ensures.missing c.slots-test.true } })
          (record { is = c.take-in-slots.ensures.taken c.if-take.true; found = refl }) (pushed_as (inside view_pat) _ _ _ (c.in_ok-hole.ensures.view Binds) c.in_ok-push.ensures.items);
      within = omega (arith, same, c.take-in-slots.ensures.shorter c.if-take.true, c.slots.invariant.within);
      placed = laid_more plain_elisions c.slots.invariant.placed hole_item comma.same comma.leads told_all view_all;
      closed = laid_last plain_elisions c.slots.invariant.placed hole_item comma.same comma.leads told_all view_all;
    }

pub pattern_slots-returns-in_err-slot-clause-refused : goal.pattern_slots-returns-in_err-slot-clause-refused
pattern_slots-returns-in_err-slot-clause-refused g t c = passed _ c.in_err-slot.ensures.refused c.from_residual-in_err-slot.ensures.1
    (λ b. none_here _ c.slots.invariant.so_far (record { same = sym (ap place_of (c.take.ensures.stays c.slots-test.true)); stuck = record { is = c.take.ensures.missing c.slots-test.true } })
    (record { same = sym (ap place_of (c.take-in-slots.ensures.stays c.if-take.false)); stuck = record { is = c.take-in-slots.ensures.missing c.if-take.false } }) b)

pub pattern_slots-returns-in_err-expect-clause-refused : goal.pattern_slots-returns-in_err-expect-clause-refused
pattern_slots-returns-in_err-expect-clause-refused g t c = passed _ c.in_err-expect.ensures.refused c.from_residual-in_err-expect.ensures.1
    (λ b. unshut _ c.slots.invariant.so_far (before (record { same = sym (ap place_of (c.take.ensures.stays c.slots-test.true)); stuck = record { is = c.take.ensures.missing c.slots-test.true } })
    (record { same = sym (ap place_of (c.take-in-slots.ensures.stays c.if-take.false)); stuck = record { is = c.take-in-slots.ensures.missing c.if-take.false } }) c.in_ok-slot.ensures.read)
    (record { same = sym (ap place_of (c.take-else-take.ensures.stays c.if-not-take.true)); stuck = record { is = c.take-else-take.ensures.missing c.if-not-take.true } }) b)

pub pattern_slots-returns-then-not-take-clause-read : goal.pattern_slots-returns-then-not-take-clause-read
pattern_slots-returns-then-not-take-clause-read g t c = shut_behind _ _ c.slots.invariant.so_far (before (record { same = sym (ap place_of (c.take.ensures.stays c.slots-test.true)); stuck = record { is = c.take.ensures.missing c.slots-test.true } })
    (record { same = sym (ap place_of (c.take-in-slots.ensures.stays c.if-take.false)); stuck = record { is = c.take-in-slots.ensures.missing c.if-take.false } }) c.in_ok-slot.ensures.read)
    (record { same = sym (ap place_of (c.take-else-take.ensures.stays c.if-not-take.true)); stuck = record { is = c.take-else-take.ensures.missing c.if-not-take.true } }) c.in_ok-expect.ensures.read (pushed (inside view_pat) _ _ _ c.in_ok-push-2.ensures.items)

pub pattern_slots-returns-then-not-take-clause-placed : goal.pattern_slots-returns-then-not-take-clause-placed
pattern_slots-returns-then-not-take-clause-placed g t c =
    let item = placed_from (c.take.ensures.stays c.slots-test.true) (placed_from (c.take-in-slots.ensures.stays c.if-take.false) c.in_ok-slot.ensures.placed) in
    row_list (list_to (c.take-else-take.ensures.stays c.if-not-take.true) (front_last plain_elisions c.slots.invariant.placed item refl (trails _ c.in_ok-slot.ensures.read (no_trailing _ (c.take-else-take.ensures.missing c.if-not-take.true)))
    (map_pushed (inside told_pat) c.slots.all.items _ c.in_ok-slot.slot _ c.in_ok-push-2.ensures.items refl) (map_pushed (inside view_pat) c.slots.all.items _ c.in_ok-slot.slot _ c.in_ok-push-2.ensures.items refl)))
    (row_sign c.in_ok-expect.ensures.takes row_end)

pub pattern_slots-returns-then-not-take-clause-ended : goal.pattern_slots-returns-then-not-take-clause-ended
pattern_slots-returns-then-not-take-clause-ended g t c = sign_ended c.in_ok-expect.ensures.read.past

pub pattern_slots-slots-preserved : goal.pattern_slots-slots-preserved
pattern_slots-slots-preserved g t c =
    let same : left c.take.new.self ≡ left c.slots.lexer = ap left (c.take.ensures.stays c.slots-test.true) in
    let same' : left c.take-in-slots.new.self ≡ left c.take.new.self = ap left (c.take-in-slots.ensures.stays c.if-take.false) in
    let item = placed_from (c.take.ensures.stays c.slots-test.true) (placed_from (c.take-in-slots.ensures.stays c.if-take.false) c.in_ok-slot.ensures.placed) in
    let comma = c.take-else-take.ensures.takes c.if-not-take.false in
    let told_all = map_pushed (inside told_pat) c.slots.all.items _ c.in_ok-slot.slot _ c.in_ok-push-2.ensures.items refl in
    let view_all = map_pushed (inside view_pat) c.slots.all.items _ c.in_ok-slot.slot _ c.in_ok-push-2.ensures.items refl in
    record {
      so_far = filled_more _ _ c.slots.invariant.so_far (before (record { same = sym (ap place_of (c.take.ensures.stays c.slots-test.true)); stuck = record { is = c.take.ensures.missing c.slots-test.true } })
          (record { same = sym (ap place_of (c.take-in-slots.ensures.stays c.if-take.false)); stuck = record { is = c.take-in-slots.ensures.missing c.if-take.false } }) c.in_ok-slot.ensures.read)
          (record { is = c.take-else-take.ensures.taken c.if-not-take.false; found = refl }) (pushed (inside view_pat) _ _ _ c.in_ok-push-2.ensures.items);
      within = omega (arith, same, same', c.take-else-take.ensures.shorter c.if-not-take.false, c.in_ok-slot.ensures.shorter, c.slots.invariant.within);
      placed = front_more plain_elisions c.slots.invariant.placed item comma.same comma.leads told_all view_all;
      closed = front_last plain_elisions c.slots.invariant.placed item comma.same (trails _ c.in_ok-slot.ensures.read (takes_trailing comma)) told_all view_all;
    }

pub pattern_slots-returns-clause-read : goal.pattern_slots-returns-clause-read
pattern_slots-returns-clause-read g t c = shut _ c.slots.invariant.so_far (record { is = c.take.ensures.taken c.slots-test.false; found = refl })

pub pattern_slots-returns-clause-placed : goal.pattern_slots-returns-clause-placed
pattern_slots-returns-clause-placed g t c = row_list c.slots.invariant.closed (row_sign (c.take.ensures.takes c.slots-test.false) row_end)

pub pattern_slots-returns-clause-ended : goal.pattern_slots-returns-clause-ended
pattern_slots-returns-clause-ended g t c = settled_token Operator Punctuator (codes "]") (place_of c.slots.lexer) refl (sym (c.take.ensures.taken c.slots-test.false)) refl

pub array_pattern-returns-clause-read : goal.array_pattern-returns-clause-read
array_pattern-returns-clause-read g t c = record { parts = _; is = c.in_ok-array_pattern.ensures.view; row = c.in_ok-all.ensures.read }

pub array_pattern-returns-clause-placed : goal.array_pattern-returns-clause-placed
array_pattern-returns-clause-placed g t c = record {
  on = λ w sign begins. placed_as c.in_ok-array_pattern.ensures.told c.in_ok-array_pattern.ensures.view (array_pattern_placed sign c.in_ok-all.ensures.placed (spans_from c.span_to.ensures refl (c.last_place-lo.ensures ∙ begins) refl));
}

pub object_pattern-returns-clause-read : goal.object_pattern-returns-clause-read
object_pattern-returns-clause-read g t c = record { parts = _; is = c.in_ok-object_pattern.ensures.view; row = c.in_ok-all.ensures.read }

pub object_pattern-returns-clause-placed : goal.object_pattern-returns-clause-placed
object_pattern-returns-clause-placed g t c = record {
  on = λ w sign begins. placed_as c.in_ok-object_pattern.ensures.told c.in_ok-object_pattern.ensures.view (object_pattern_placed sign c.in_ok-all.ensures.placed (spans_from c.span_to.ensures refl (c.last_place-lo.ensures ∙ begins) refl));
}

pub pair_pattern-returns-in_err-expect-clause-refused : goal.pair_pattern-returns-in_err-expect-clause-refused
pair_pattern-returns-in_err-expect-clause-refused g t c = passed _ c.in_err-expect.ensures.refused c.from_residual.ensures.1 (λ b. bar b)

pub pair_pattern-returns-in_err-value-clause-refused : goal.pair_pattern-returns-in_err-value-clause-refused
pair_pattern-returns-in_err-value-clause-refused g t c = passed _ c.in_err-value.ensures.refused c.from_residual-in_err-value.ensures.1 (λ n. on c.in_ok-expect.ensures.read (no_pair_value n))

pub pair_pattern-returns-clause-read : goal.pair_pattern-returns-clause-read
pair_pattern-returns-clause-read g t c = record { value = _; behind = _; is = c.in_ok-pair_pattern.ensures.view Binds; colon = colon_moves c.in_ok-expect.ensures.read; element = c.in_ok-value.ensures.read }

pub pair_pattern-returns-clause-placed : goal.pair_pattern-returns-clause-placed
pair_pattern-returns-clause-placed g t c = record {
  on = λ w begins key. placed_as c.in_ok-pair_pattern.ensures.told (c.in_ok-pair_pattern.ensures.view Binds) (pair_pattern_placed key c.in_ok-expect.ensures.takes c.in_ok-value.ensures.placed (spans_from c.span_to.ensures refl begins refl));
}

pub pattern_parts-parts-init : goal.pattern_parts-parts-init
pattern_parts-parts-init g t c = record {
  so_far = begun _ (ap (λ xs. forest (map (inside view_pat) xs)) c.new-all.ensures.items);
  placed = subst (λ xs. PlacedFront false Commas (map (inside told_pat) xs) (map (inside view_pat) xs) c.args.lexer.now c.args.lexer.now) (sym c.new-all.ensures.items) front_none;
  closed = subst (λ xs. IsPlacedListAs false Commas (tales (map (inside told_pat) xs)) (forest (map (inside view_pat) xs)) c.args.lexer.now c.args.lexer.now) (sym c.new-all.ensures.items) list_none;
  within = omega arith;
}

pub pattern_parts-returns-in_err-part-clause-refused : goal.pattern_parts-returns-in_err-part-clause-refused
pattern_parts-returns-in_err-part-clause-refused g t c = passed _ c.in_err-part.ensures.refused c.from_residual.ensures.1
    (λ b. parts.none_more _ c.parts.invariant.so_far (record { same = sym (ap place_of (c.take.ensures.stays c.parts-test.true)); stuck = record { is = c.take.ensures.missing c.parts-test.true } }) b)

pub pattern_parts-returns-in_err-expect-clause-refused : goal.pattern_parts-returns-in_err-expect-clause-refused
pattern_parts-returns-in_err-expect-clause-refused g t c = passed _ c.in_err-expect.ensures.refused c.from_residual-in_err-expect.ensures.1
    (λ b. parts.unshut _ c.parts.invariant.so_far (record { same = sym (ap place_of (c.take.ensures.stays c.parts-test.true)); stuck = record { is = c.take.ensures.missing c.parts-test.true } }) c.in_ok-part.ensures.read
    (record { same = sym (ap place_of (c.take-in-parts.ensures.stays c.if-not-take.true)); stuck = record { is = c.take-in-parts.ensures.missing c.if-not-take.true } }) b)

pub pattern_parts-returns-then-not-take-clause-read : goal.pattern_parts-returns-then-not-take-clause-read
pattern_parts-returns-then-not-take-clause-read g t c = parts.shut_behind _ _ c.parts.invariant.so_far (record { same = sym (ap place_of (c.take.ensures.stays c.parts-test.true)); stuck = record { is = c.take.ensures.missing c.parts-test.true } }) c.in_ok-part.ensures.read
    (record { same = sym (ap place_of (c.take-in-parts.ensures.stays c.if-not-take.true)); stuck = record { is = c.take-in-parts.ensures.missing c.if-not-take.true } }) c.in_ok-expect.ensures.read (pushed (inside view_pat) _ _ _ c.in_ok-push.ensures.items)

pub pattern_parts-parts-preserved : goal.pattern_parts-parts-preserved
pattern_parts-parts-preserved g t c =
    let same : left c.take.new.self ≡ left c.parts.lexer = ap left (c.take.ensures.stays c.parts-test.true) in
    let member = placed_from (c.take.ensures.stays c.parts-test.true) c.in_ok-part.ensures.placed in
    let comma = c.take-in-parts.ensures.takes c.if-not-take.false in
    let told_all = map_pushed (inside told_pat) c.parts.all.items _ c.in_ok-part.part _ c.in_ok-push.ensures.items refl in
    let view_all = map_pushed (inside view_pat) c.parts.all.items _ c.in_ok-part.part _ c.in_ok-push.ensures.items refl in
    record {
      so_far = parts.part_more _ _ c.parts.invariant.so_far (record { same = sym (ap place_of (c.take.ensures.stays c.parts-test.true)); stuck = record { is = c.take.ensures.missing c.parts-test.true } }) c.in_ok-part.ensures.read
          (record { is = c.take-in-parts.ensures.taken c.if-not-take.false; found = refl }) (pushed (inside view_pat) _ _ _ c.in_ok-push.ensures.items);
      within = omega (arith, same, c.take-in-parts.ensures.shorter c.if-not-take.false, c.in_ok-part.ensures.shorter, c.parts.invariant.within);
      placed = front_more plain_commas c.parts.invariant.placed member comma.same comma.leads told_all view_all;
      closed = front_last plain_commas c.parts.invariant.placed member comma.same (takes_trailing comma) told_all view_all;
    }

pub pattern_parts-returns-clause-read : goal.pattern_parts-returns-clause-read
pattern_parts-returns-clause-read g t c = parts.shut _ c.parts.invariant.so_far (record { is = c.take.ensures.taken c.parts-test.false; found = refl })

pub pattern_parts-returns-then-not-take-clause-placed : goal.pattern_parts-returns-then-not-take-clause-placed
pattern_parts-returns-then-not-take-clause-placed g t c =
    let member = placed_from (c.take.ensures.stays c.parts-test.true) c.in_ok-part.ensures.placed in
    row_list (list_to (c.take-in-parts.ensures.stays c.if-not-take.true) (front_last plain_commas c.parts.invariant.placed member refl (no_trailing _ (c.take-in-parts.ensures.missing c.if-not-take.true))
    (map_pushed (inside told_pat) c.parts.all.items _ c.in_ok-part.part _ c.in_ok-push.ensures.items refl) (map_pushed (inside view_pat) c.parts.all.items _ c.in_ok-part.part _ c.in_ok-push.ensures.items refl)))
    (row_quiet (λ q. refl) (row_sign c.in_ok-expect.ensures.takes row_end))

pub pattern_parts-returns-clause-placed : goal.pattern_parts-returns-clause-placed
pattern_parts-returns-clause-placed g t c = row_list c.parts.invariant.closed (row_quiet (λ q. refl) (row_sign (c.take.ensures.takes c.parts-test.false) row_end))

pub pattern_parts-returns-clause-ended : goal.pattern_parts-returns-clause-ended
pattern_parts-returns-clause-ended g t c = settled_token Operator Punctuator (codes "}") (place_of c.parts.lexer) refl (sym (c.take.ensures.taken c.parts-test.false)) refl

pub pattern_parts-returns-then-not-take-clause-ended : goal.pattern_parts-returns-then-not-take-clause-ended
pattern_parts-returns-then-not-take-clause-ended g t c = sign_ended c.in_ok-expect.ensures.read.past

-- ---- a part of an object's pattern

pub pattern_part-returns-in_err-rest_property-clause-refused : goal.pattern_part-returns-in_err-rest_property-clause-refused
pattern_part-returns-in_err-rest_property-clause-refused g t c = passed _ c.in_err-rest_property.ensures.refused c.from_residual.ensures.1 (λ b. parts.no_rest_property (record { is = c.take.ensures.taken c.if-take.true; found = refl }) b)

pub pattern_part-returns-then-take-clause-read : goal.pattern_part-returns-then-take-clause-read
pattern_part-returns-then-take-clause-read g t c = parts.rest_property_read (record { is = c.take.ensures.taken c.if-take.true; found = refl }) c.in_ok-rest_property.ensures.read

pub pattern_part-returns-then-take-clause-placed : goal.pattern_part-returns-then-take-clause-placed
pattern_part-returns-then-take-clause-placed g t c = c.in_ok-rest_property.ensures.placed.on _ (c.take.ensures.takes c.if-take.true) (c.take.ensures.begins c.if-take.true)

-- a key in brackets
pub pattern_part-returns-in_err-levels-clause-refused : goal.pattern_part-returns-in_err-levels-clause-refused
pattern_part-returns-in_err-levels-clause-refused g t c =
    let same = c.take.ensures.stays c.if-take.false in
    passed _ c.in_err-levels.ensures.refused c.from_residual-in_err-levels.ensures.1
    (λ b. parts.no_part_from same (parts.deep_bracket (record { is = ap (λ h. forth (pun "...") (place_of h)) same ∙ c.take.ensures.missing c.if-take.false }) b))

pub pattern_part-returns-in_err-key-clause-refused : goal.pattern_part-returns-in_err-key-clause-refused
pattern_part-returns-in_err-key-clause-refused g t c =
    let same = c.take.ensures.stays c.if-take.false in
    passed_in _ c.in_ok-levels.ensures.levels c.in_err-key.ensures.refused c.from_residual-in_err-key.ensures.1
    (λ n. parts.no_part_from same (parts.no_key_part (record { is = ap (λ h. forth (pun "...") (place_of h)) same ∙ c.take.ensures.missing c.if-take.false }) (computed_barred (record { is = c.take-2.ensures.taken c.if-take-2.true; found = refl }) n)))

pub pattern_part-returns-in_err-pair_pattern-clause-refused : goal.pattern_part-returns-in_err-pair_pattern-clause-refused
pattern_part-returns-in_err-pair_pattern-clause-refused g t c =
    let key = computed_only (record { is = c.take-2.ensures.taken c.if-take-2.true; found = refl }) c.in_ok-key.ensures.read in
    passed_in _ c.in_ok-levels.ensures.levels c.in_err-pair_pattern.ensures.refused c.from_residual-in_err-pair_pattern.ensures.1
    (λ n. parts.no_part_from (c.take.ensures.stays c.if-take.false) (parts.no_wordless_part key (ap is_word c.in_ok-key.ensures.read.is) n))

pub pattern_part-returns-then-take-2-clause-read : goal.pattern_part-returns-then-take-2-clause-read
pattern_part-returns-then-take-2-clause-read g t c =
    let key = computed_only (record { is = c.take-2.ensures.taken c.if-take-2.true; found = refl }) c.in_ok-key.ensures.read in
    subst (λ p. OnlyPart (around_of c.args.context.around) p (view_pat c.in_ok-pair_pattern.field-0.value) (place_of c.pair_pattern.new.lexer)) (ap place_of (c.take.ensures.stays c.if-take.false)) (parts.pair_part key c.in_ok-pair_pattern.ensures.read)

pub pattern_part-returns-then-take-2-clause-placed : goal.pattern_part-returns-then-take-2-clause-placed
pattern_part-returns-then-take-2-clause-placed g t c = placed_from (c.take.ensures.stays c.if-take.false)
    (c.in_ok-pair_pattern.ensures.placed.on _ (c.last_place-lo.ensures ∙ c.take-2.ensures.begins c.if-take-2.true)
    (c.in_ok-key.ensures.placed.on _ (c.take-2.ensures.takes c.if-take-2.true) (c.take-2.ensures.begins c.if-take-2.true)))

-- a name
pub pattern_part-returns-in_err-levels-2-clause-refused : goal.pattern_part-returns-in_err-levels-2-clause-refused
pattern_part-returns-in_err-levels-2-clause-refused g t c =
    let same = c.take-2.ensures.stays c.if-take-2.false ∙ c.take.ensures.stays c.if-take.false in
    let key = literal_key IsName (chars c.in-Some.raw.now) refl c.in-Some.ensures.whole c.in-Some.ensures.taken refl in
    passed _ c.in_err-levels-2.ensures.refused c.from_residual-in_err-levels-2.ensures.1
    (λ b. parts.no_part_from same (parts.deep_part key refl b))

pub pattern_part-returns-in_err-pair_pattern-2-clause-refused : goal.pattern_part-returns-in_err-pair_pattern-2-clause-refused
pattern_part-returns-in_err-pair_pattern-2-clause-refused g t c =
    let same = c.take-2.ensures.stays c.if-take-2.false ∙ c.take.ensures.stays c.if-take.false in
    let taken = ap place_of c.is_key.ensures.stays ∙ c.in-Some.ensures.taken in
    let key = key_as c.name_key.ensures.view (literal_key IsName (chars c.in-Some.raw.now) refl c.in-Some.ensures.whole taken refl) in
    passed_in _ c.in_ok-levels-2.ensures.levels c.in_err-pair_pattern-2.ensures.refused c.from_residual-in_err-pair_pattern-2.ensures.1
    (λ n. parts.no_part_from same
    (parts.no_pair_part key (parts.keyed_word (chars c.in-Some.raw.now) c.name_key.ensures.view (ap place_of c.is_key.ensures.stays) (sym c.is_key.ensures.keyed ∙ c.if-is_key.true)) n))

pub pattern_part-returns-then-is_key-clause-read : goal.pattern_part-returns-then-is_key-clause-read
pattern_part-returns-then-is_key-clause-read g t c =
    let same = c.take-2.ensures.stays c.if-take-2.false ∙ c.take.ensures.stays c.if-take.false in
    let taken = ap place_of c.is_key.ensures.stays ∙ c.in-Some.ensures.taken in
    let key = key_as c.name_key.ensures.view (literal_key IsName (chars c.in-Some.raw.now) refl c.in-Some.ensures.whole taken refl) in
    subst (λ p. OnlyPart (around_of c.args.context.around) p (view_pat c.in_ok-pair_pattern-2.field-0.value) (place_of c.pair_pattern-then-is_key.new.lexer)) (ap place_of same) (parts.pair_part key c.in_ok-pair_pattern-2.ensures.read)

pub pattern_part-returns-then-is_key-clause-placed : goal.pattern_part-returns-then-is_key-clause-placed
pattern_part-returns-then-is_key-clause-placed g t c =
    let same = c.take-2.ensures.stays c.if-take-2.false ∙ c.take.ensures.stays c.if-take.false in
    let begins = c.last_place-lo-in-Some.ensures ∙ c.in-Some.ensures.begins in
    placed_from same (c.in_ok-pair_pattern-2.ensures.placed.on _ begins (placed_as c.name_key.ensures.told c.name_key.ensures.view (placed_to c.is_key.ensures.stays (name_placed c.in-Some.ensures.takes begins))))

pub pattern_part-returns-in_err-short_pattern-clause-refused : goal.pattern_part-returns-in_err-short_pattern-clause-refused
pattern_part-returns-in_err-short_pattern-clause-refused g t c =
    let same = c.take-2.ensures.stays c.if-take-2.false ∙ c.take.ensures.stays c.if-take.false in
    let taken = ap place_of c.is_key.ensures.stays ∙ c.in-Some.ensures.taken in
    let alone = parts.unkeyed (chars c.in-Some.raw.now) (ap place_of c.is_key.ensures.stays) (sym c.is_key.ensures.keyed ∙ c.if-is_key.false) in
    passed_in _ c.in_ok-levels-2.ensures.levels c.in_err-short_pattern.ensures.refused c.from_residual-in_err-short_pattern.ensures.1
    (λ n. parts.no_part_from same (n.no _ (only_leaf bindings alone.0 refl c.in-Some.ensures.whole taken refl) alone.1))

pub pattern_part-returns-in-Some-clause-read : goal.pattern_part-returns-in-Some-clause-read
pattern_part-returns-in-Some-clause-read g t c =
    let same = c.take-2.ensures.stays c.if-take-2.false ∙ c.take.ensures.stays c.if-take.false in
    let taken = ap place_of c.is_key.ensures.stays ∙ c.in-Some.ensures.taken in
    let alone = parts.unkeyed (chars c.in-Some.raw.now) (ap place_of c.is_key.ensures.stays) (sym c.is_key.ensures.keyed ∙ c.if-is_key.false) in
    subst (λ p. OnlyPart (around_of c.args.context.around) p (view_pat c.in_ok-short_pattern.field-0.value) (place_of c.short_pattern.new.lexer)) (ap place_of same) (c.in_ok-short_pattern.ensures.read.on _ (only_leaf bindings alone.0 refl c.in-Some.ensures.whole taken refl) alone.1)

pub pattern_part-returns-in-Some-clause-placed : goal.pattern_part-returns-in-Some-clause-placed
pattern_part-returns-in-Some-clause-placed g t c =
    let same = c.take-2.ensures.stays c.if-take-2.false ∙ c.take.ensures.stays c.if-take.false in
    let begins = c.last_place-lo-in-Some.ensures ∙ c.in-Some.ensures.begins in
    placed_from same (c.in_ok-short_pattern.ensures.placed.on _ begins (placed_to c.is_key.ensures.stays (name_placed c.in-Some.ensures.takes begins)))

-- a string or a number
pub pattern_part-literal_key-requires : goal.pattern_part-literal_key-requires
pattern_part-literal_key-requires g t c =
    let same = c.in_default.ensures.stays in
    record { name = λ t. ap (λ h. forth (Tok Operator IdentifierName t) (place_of h)) same ∙ c.in_default.ensures.missing t; bracket = ap (λ h. forth (pun "[") (place_of h)) (same ∙ c.take-2.ensures.stays c.if-take-2.false) ∙ c.take-2.ensures.missing c.if-take-2.false }

pub pattern_part-returns-in_err-key-2-clause-refused : goal.pattern_part-returns-in_err-key-2-clause-refused
pattern_part-returns-in_err-key-2-clause-refused g t c =
    let same = c.in_default.ensures.stays ∙ (c.take-2.ensures.stays c.if-take-2.false ∙ c.take.ensures.stays c.if-take.false) in
    passed _ c.in_err-key-2.ensures.refused c.from_residual-in_err-key-2.ensures.1
    (λ b. parts.no_part_from same (parts.no_literal_part (record { is = ap (λ h. forth (pun "...") (place_of h)) same ∙ c.take.ensures.missing c.if-take.false }) b))

pub pattern_part-returns-in_err-levels-3-clause-refused : goal.pattern_part-returns-in_err-levels-3-clause-refused
pattern_part-returns-in_err-levels-3-clause-refused g t c =
    let same = c.in_default.ensures.stays ∙ (c.take-2.ensures.stays c.if-take-2.false ∙ c.take.ensures.stays c.if-take.false) in
    passed _ c.in_err-levels-3.ensures.refused c.from_residual-in_err-levels-3.ensures.1
    (λ b. parts.no_part_from same (parts.deep_part c.in_ok-key-2.ensures.read c.in_ok-key-2.ensures.depth b))

pub pattern_part-returns-in_err-pair_pattern-3-clause-refused : goal.pattern_part-returns-in_err-pair_pattern-3-clause-refused
pattern_part-returns-in_err-pair_pattern-3-clause-refused g t c =
    let same = c.in_default.ensures.stays ∙ (c.take-2.ensures.stays c.if-take-2.false ∙ c.take.ensures.stays c.if-take.false) in
    passed_in _ c.in_ok-levels-3.ensures.levels c.in_err-pair_pattern-3.ensures.refused c.from_residual-in_err-pair_pattern-3.ensures.1
    (λ n. parts.no_part_from same (parts.no_wordless_part c.in_ok-key-2.ensures.read c.in_ok-key-2.ensures.literal n))

pub pattern_part-returns-clause-read : goal.pattern_part-returns-clause-read
pattern_part-returns-clause-read g t c =
    let same = c.in_default.ensures.stays ∙ (c.take-2.ensures.stays c.if-take-2.false ∙ c.take.ensures.stays c.if-take.false) in
    subst (λ p. OnlyPart (around_of c.args.context.around) p (view_pat c.in_ok-pair_pattern-3.field-0.value) (place_of c.pair_pattern-2.new.lexer)) (ap place_of same) (parts.pair_part c.in_ok-key-2.ensures.read c.in_ok-pair_pattern-3.ensures.read)

pub pattern_part-returns-clause-placed : goal.pattern_part-returns-clause-placed
pattern_part-returns-clause-placed g t c =
    let same = c.in_default.ensures.stays ∙ (c.take-2.ensures.stays c.if-take-2.false ∙ c.take.ensures.stays c.if-take.false) in
    placed_from same (c.in_ok-pair_pattern-3.ensures.placed.on _ (c.last_place.ensures ∙ c.in_ok-key-2.ensures.begins) c.in_ok-key-2.ensures.placed)
