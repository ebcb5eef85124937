use Rattle.std.proofs.Common.{refl}
use Rattle.jsx_operand.proofs.Places.{spans_from}
use Rattle.jsx_operand.proofs.Steps.{passed}
use Rattle.jsx_member.proofs.MemberCovers.{no_colon_pair, no_value_pair, pair_cover}
use Rattle.jsx_member.proofs.MemberPlaces.{pair_placed}
use Rattle.jsx_member.proofs.grammar.Brackets.property.Goals as goal

pub returns-in_err-expect-clause-refused : goal.returns-in_err-expect-clause-refused
returns-in_err-expect-clause-refused g c = passed _ c.in_err-expect.ensures.refused c.from_residual.ensures.1 (λ b. no_colon_pair c.args.key b)

pub returns-in_err-value-clause-refused : goal.returns-in_err-value-clause-refused
returns-in_err-value-clause-refused g c = passed _ c.in_err-value.ensures.refused c.from_residual-in_err-value.ensures.1 (λ n. no_value_pair c.args.key c.in_ok-expect.ensures.read n)

pub returns-clause-read : goal.returns-clause-read
returns-clause-read g c = pair_cover c.args.key c.in_ok-expect.ensures.read c.in_ok-value.ensures.read c.in_ok-prop.ensures.view refl refl

pub returns-clause-placed : goal.returns-clause-placed
returns-clause-placed g c = pair_placed c.args.key c.in_ok-expect.ensures.takes c.in_ok-value.ensures.placed c.in_ok-prop.ensures.view c.in_ok-prop.ensures.told (λ w begins. spans_from c.span_to.ensures refl begins refl) refl refl
