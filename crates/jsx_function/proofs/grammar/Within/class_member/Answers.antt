use Rattle.std.proofs.Common.{true, false, arith, refl, ◌∙◌}
use Rattle.jsx_operand.proofs.Placing.{placed_from}
use Rattle.jsx_operand.proofs.Steps.{passed}
use Rattle.jsx_function.proofs.ClassElements.{element_from, no_element_from}
use Rattle.jsx_function.proofs.ClassMembers.{deep_static, no_own_member, no_static_member, own_member, static_member}
use Rattle.jsx_function.proofs.grammar.Within.class_member.Goals as goal

pub class_element-requires-clause-nests : goal.class_element-requires-clause-nests
class_element-requires-clause-nests g c = record {
  callable = λ k x level l r. c.requires.nests.callable k x level (omega (arith, l, c.take_prefix.ensures.shorter c.if-take_prefix.true)) r;
  read = c.requires.nests.read;
  span = c.requires.nests.span;
  placed = c.requires.nests.placed;
  shorter = c.requires.nests.shorter;
  ended = c.requires.nests.ended;
  settles = c.requires.nests.settles;
  refused = c.requires.nests.refused;
}

pub class_element-requires-clause-bodies : goal.class_element-requires-clause-bodies
class_element-requires-clause-bodies g c = record {
  callable = λ k x l. c.requires.bodies.callable k x (omega (arith, l, c.take_prefix.ensures.shorter c.if-take_prefix.true));
  read = c.requires.bodies.read;
  placed = c.requires.bodies.placed;
  within = c.requires.bodies.within;
  refused = c.requires.bodies.refused;
}

pub returns-in_err-within_leaf-clause-refused : goal.returns-in_err-within_leaf-clause-refused
returns-in_err-within_leaf-clause-refused g c = passed _ c.in_err-within_leaf.ensures.refused c.from_residual.ensures.1 (λ b. deep_static (c.take_prefix.ensures.taken c.if-take_prefix.true) b)

pub returns-in_err-class_element-clause-refused : goal.returns-in_err-class_element-clause-refused
returns-in_err-class_element-clause-refused g c = passed _ c.in_err-class_element.ensures.refused c.from_residual-in_err-class_element.ensures.1 (λ n. no_static_member (c.take_prefix.ensures.taken c.if-take_prefix.true) n)

pub returns-then-take_prefix-clause-read : goal.returns-then-take_prefix-clause-read
returns-then-take_prefix-clause-read g c = static_member (c.take_prefix.ensures.taken c.if-take_prefix.true) c.in_ok-class_element.ensures.read

pub returns-then-take_prefix-clause-placed : goal.returns-then-take_prefix-clause-placed
returns-then-take_prefix-clause-placed g c = c.in_ok-class_element.ensures.placed.behind _ refl (c.take_prefix.ensures.takes c.if-take_prefix.true) (c.last_place.ensures ∙ c.take_prefix.ensures.begins c.if-take_prefix.true)

pub returns-in_err-class_element-2-clause-refused : goal.returns-in_err-class_element-2-clause-refused
returns-in_err-class_element-2-clause-refused g c = passed _ c.in_err-class_element-2.ensures.refused c.from_residual-in_err-class_element-2.ensures.1
    (λ n. no_own_member (c.take_prefix.ensures.missing c.if-take_prefix.false) (no_element_from (c.take_prefix.ensures.stays c.if-take_prefix.false) n))

pub returns-clause-read : goal.returns-clause-read
returns-clause-read g c = own_member (c.take_prefix.ensures.missing c.if-take_prefix.false) (element_from (c.take_prefix.ensures.stays c.if-take_prefix.false) c.in_ok-class_element-2.ensures.read)

pub returns-clause-placed : goal.returns-clause-placed
returns-clause-placed g c = placed_from (c.take_prefix.ensures.stays c.if-take_prefix.false) (c.in_ok-class_element-2.ensures.placed.own refl refl)
