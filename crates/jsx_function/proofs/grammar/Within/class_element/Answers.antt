use Rattle.std.proofs.Common.{true, false, arith, ◌∙◌}
use Rattle.jsx_operand.proofs.Steps.{passed, passed_in}
use Rattle.jsx_function.specs.Methods.{holder_at}
use Rattle.jsx_function.proofs.ClassElements.{accessor_element, element_from, element_inside, key_none, keyed_none, keyed_only, no_accessor_element, no_element_from, key_first_by}
use Rattle.jsx_function.proofs.PlacedElements.{element_placed, element_placed_from, keyed_element_placed}
use Rattle.jsx_function.proofs.grammar.Within.class_element.Goals as goal

-- a getter
pub getter_member-requires-clause-nests : goal.getter_member-requires-clause-nests
getter_member-requires-clause-nests g c = record {
  callable = λ k x level l r. c.requires.nests.callable k x level (omega (arith, l, c.take_prefix.ensures.shorter c.if-take_prefix.true)) r;
  read = c.requires.nests.read;
  span = c.requires.nests.span;
  placed = c.requires.nests.placed;
  shorter = c.requires.nests.shorter;
  ended = c.requires.nests.ended;
  settles = c.requires.nests.settles;
  refused = c.requires.nests.refused;
}

pub returns-in_err-getter_member-clause-refused : goal.returns-in_err-getter_member-clause-refused
returns-in_err-getter_member-clause-refused g c = passed _ c.in_err-getter_member.ensures.refused c.from_residual.ensures.1 (λ n. no_accessor_element (holder_at c.args.home) true (c.take_prefix.ensures.taken c.if-take_prefix.true) n)

pub returns-then-take_prefix-clause-read : goal.returns-then-take_prefix-clause-read
returns-then-take_prefix-clause-read g c = accessor_element (holder_at c.args.home) true (c.take_prefix.ensures.taken c.if-take_prefix.true) c.in_ok-getter_member.ensures.read

pub returns-then-take_prefix-clause-placed : goal.returns-then-take_prefix-clause-placed
returns-then-take_prefix-clause-placed g c =
    element_placed (holder_at c.args.home) c.args.start (c.take_prefix.ensures.takes c.if-take_prefix.true) c.begin-lo.ensures (c.last_place.ensures ∙ c.take_prefix.ensures.begins c.if-take_prefix.true) c.in_ok-getter_member.ensures.placed

-- a setter
pub returns-in_err-setter_member-clause-refused : goal.returns-in_err-setter_member-clause-refused
returns-in_err-setter_member-clause-refused g c = passed _ c.in_err-setter_member.ensures.refused c.from_residual-in_err-setter_member.ensures.1
    (λ n. no_element_from (c.take_prefix.ensures.stays c.if-take_prefix.false) (no_accessor_element (holder_at c.args.home) false (c.take_prefix-2.ensures.taken c.if-take_prefix-2.true) n))

pub returns-then-take_prefix-2-clause-read : goal.returns-then-take_prefix-2-clause-read
returns-then-take_prefix-2-clause-read g c = element_from (c.take_prefix.ensures.stays c.if-take_prefix.false) (accessor_element (holder_at c.args.home) false (c.take_prefix-2.ensures.taken c.if-take_prefix-2.true) c.in_ok-setter_member.ensures.read)

pub returns-then-take_prefix-2-clause-placed : goal.returns-then-take_prefix-2-clause-placed
returns-then-take_prefix-2-clause-placed g c =
    element_placed_from (c.take_prefix.ensures.stays c.if-take_prefix.false)
    (element_placed (holder_at c.args.home) c.args.start (c.take_prefix-2.ensures.takes c.if-take_prefix-2.true) c.begin-lo-then-take_prefix-2.ensures (c.last_place-then-take_prefix-2.ensures ∙ c.take_prefix-2.ensures.begins c.if-take_prefix-2.true) c.in_ok-setter_member.ensures.placed)

-- one whose key comes first
pub returns-in_err-key-clause-refused : goal.returns-in_err-key-clause-refused
returns-in_err-key-clause-refused g c =
    let bare = key_first_by (c.take_prefix-2.ensures.stays c.if-take_prefix-2.false) (c.take_prefix.ensures.stays c.if-take_prefix.false) (c.take_prefix.ensures.missing c.if-take_prefix.false) (c.take_prefix-2.ensures.missing c.if-take_prefix-2.false) in
    passed _ c.in_err-key.ensures.refused c.from_residual-in_err-key.ensures.1 (λ b. no_element_from (c.take_prefix-2.ensures.stays c.if-take_prefix-2.false ∙ c.take_prefix.ensures.stays c.if-take_prefix.false) (key_none (holder_at c.args.home) bare b))

pub returns-in_err-class_keyed-clause-refused : goal.returns-in_err-class_keyed-clause-refused
returns-in_err-class_keyed-clause-refused g c =
    let bare = key_first_by (c.take_prefix-2.ensures.stays c.if-take_prefix-2.false) (c.take_prefix.ensures.stays c.if-take_prefix.false) (c.take_prefix.ensures.missing c.if-take_prefix.false) (c.take_prefix-2.ensures.missing c.if-take_prefix-2.false) in
    passed_in _ c.in_ok-key.ensures.levels c.in_err-class_keyed.ensures.refused c.from_residual-in_err-class_keyed.ensures.1
    (λ n. no_element_from (c.take_prefix-2.ensures.stays c.if-take_prefix-2.false ∙ c.take_prefix.ensures.stays c.if-take_prefix.false) (element_inside (keyed_none (holder_at c.args.home) bare c.in_ok-key.ensures.read n)))

pub returns-clause-read : goal.returns-clause-read
returns-clause-read g c =
    let bare = key_first_by (c.take_prefix-2.ensures.stays c.if-take_prefix-2.false) (c.take_prefix.ensures.stays c.if-take_prefix.false) (c.take_prefix.ensures.missing c.if-take_prefix.false) (c.take_prefix-2.ensures.missing c.if-take_prefix-2.false) in
    element_from (c.take_prefix-2.ensures.stays c.if-take_prefix-2.false ∙ c.take_prefix.ensures.stays c.if-take_prefix.false) (keyed_only (holder_at c.args.home) bare c.in_ok-key.ensures.read c.in_ok-class_keyed.ensures.read)

pub returns-clause-placed : goal.returns-clause-placed
returns-clause-placed g c =
    element_placed_from (c.take_prefix-2.ensures.stays c.if-take_prefix-2.false ∙ c.take_prefix.ensures.stays c.if-take_prefix.false)
    (keyed_element_placed (holder_at c.args.home) c.args.start c.begin.ensures c.in_ok-key.ensures.place c.in_ok-key.ensures.placed c.in_ok-class_keyed.ensures.placed)
