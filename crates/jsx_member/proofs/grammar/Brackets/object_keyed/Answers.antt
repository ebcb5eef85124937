use Rattle.std.proofs.Common.{true, false, sym, ◌∙◌, ap}
use Rattle.jsx_make.specs.Members.{view_prop}
use Rattle.jsx_operand.proofs.Placing.{placed_to}
use Rattle.jsx_operand.proofs.Steps.{passed}
use Rattle.jsx_function.specs.Methods.{took_none}
use Rattle.jsx_function.proofs.Keyed.{keyed_at, no_keyed_at}
use Rattle.jsx_member.proofs.MemberCovers.{keyed_as, method_cover, method_unturned, no_method_cover, no_pair_keyed, pair_keyed}
use Rattle.jsx_member.proofs.MemberPlaces.{pair_from, settled_placed}
use Rattle.jsx_member.proofs.grammar.Brackets.object_keyed.Goals as goal

-- a method
pub returns-in_err-prop-clause-refused : goal.returns-in_err-prop-clause-refused
returns-in_err-prop-clause-refused g c = passed _ c.in_err-prop.ensures.refused c.from_residual.ensures.1 (λ n. no_method_cover (sym c.is_before.ensures.ahead ∙ c.if-is_before.true) (no_keyed_at c.is_before.ensures.stays n))

pub returns-then-is_before-clause-read : goal.returns-then-is_before-clause-read
returns-then-is_before-clause-read g c = method_cover (sym c.is_before.ensures.ahead ∙ c.if-is_before.true) c.settled.ensures.is_expr (keyed_as (ap (λ b. view_prop b.value) c.settled.ensures.prop) (keyed_at c.is_before.ensures.stays c.in_ok-prop.ensures.read))

pub returns-then-is_before-clause-placed : goal.returns-then-is_before-clause-placed
returns-then-is_before-clause-placed g c = record {
  on = λ w begins l. settled_placed c.settled.ensures.prop (method_unturned c.in_ok-prop.ensures.read) (c.in_ok-prop.ensures.placed.on w w took_none begins (placed_to c.is_before.ensures.stays l));
}

-- a property
pub returns-in_err-property-clause-refused : goal.returns-in_err-property-clause-refused
returns-in_err-property-clause-refused g c = passed _ c.in_err-property.ensures.refused c.from_residual-in_err-property.ensures.1 (λ n. no_pair_keyed c.is_before.ensures.stays (sym c.is_before.ensures.ahead ∙ c.if-is_before.false) n)

pub returns-clause-read : goal.returns-clause-read
returns-clause-read g c = pair_keyed c.is_before.ensures.stays c.in_ok-property.ensures.read

pub returns-clause-placed : goal.returns-clause-placed
returns-clause-placed g c = pair_from c.is_before.ensures.stays c.in_ok-property.ensures.placed
