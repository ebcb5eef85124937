use Rattle.std.proofs.Common.{◌≡◌, ◌+◌, ◌*◌, ◌++◌, length, map}
use Rattle.std.specs.Vec.Iter.{into_iter_items, into_iter_len}
use Rattle.jsx_tree.specs.Told.{told_expr, told_pat, told_prop}
use Rattle.jsx_tree.specs.View.{forest, inside, view_expr, view_target}
use Rattle.jsx_make.specs.Members.{view_prop}
use Rattle.jsx_operand.specs.Turning.{TurnsParts, TurnsSlots, retold, retold_part}
use Rattle.jsx_operand.proofs.Turners.{weight, weights}
use Rattle.jsx_operand.proofs.turn.+turned.Given as goal

abbrev pub decreases-turned : goal.decreases-turned
decreases-turned l = 3 * weight (view_expr l.expr.value)

abbrev pub decreases-turned_element : goal.decreases-turned_element
decreases-turned_element l = 3 * weight (view_expr l.expr.value) + 1

abbrev pub decreases-turned_slot : goal.decreases-turned_slot
decreases-turned_slot l = 3 * weight (view_expr l.item.value) + 2

abbrev pub decreases-turned_slots : goal.decreases-turned_slots
decreases-turned_slots l = 3 * weights (forest (map (inside view_expr) l.items.items))

abbrev pub decreases-turned_part : goal.decreases-turned_part
decreases-turned_part l = 3 * weight (view_prop l.member.value)

abbrev pub decreases-turned_parts : goal.decreases-turned_parts
decreases-turned_parts l = 3 * weights (forest (map (inside view_prop) l.members.items))

abbrev pub invariant-turned_slots-items : goal.invariant-turned_slots-items
invariant-turned_slots-items l = record {
  all : l.yielded ++ into_iter_items l.item-iterator ≡ into_iter_items l.initial.item-iterator;
  left : into_iter_len l.item-iterator ≡ length (into_iter_items l.item-iterator);
  read : TurnsSlots (forest (map (inside view_expr) l.yielded)) (forest (map (inside view_target) l.slots.items));
  told : map (inside told_pat) l.slots.items ≡ map (λ e. retold (view_expr e.value) (told_expr e.value)) l.yielded;
}

abbrev pub invariant-turned_parts-members : goal.invariant-turned_parts-members
invariant-turned_parts-members l = record {
  all : l.yielded ++ into_iter_items l.member-iterator ≡ into_iter_items l.initial.member-iterator;
  left : into_iter_len l.member-iterator ≡ length (into_iter_items l.member-iterator);
  read : TurnsParts (forest (map (inside view_prop) l.yielded)) (forest (map (inside view_target) l.parts.items));
  told : map (inside told_pat) l.parts.items ≡ map (λ m. retold_part (view_prop m.value) (told_prop m.value)) l.yielded;
}
