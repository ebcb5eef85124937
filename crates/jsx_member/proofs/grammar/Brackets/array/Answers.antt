use Rattle.std.proofs.Common.{refl, ◌∙◌}
use Rattle.jsx_operand.proofs.Places.{spans_from}
use Rattle.jsx_operand.proofs.Steps.{passed}
use Rattle.jsx_member.proofs.LiteralCovers.{array_cover, array_placed, no_array_cover}
use Rattle.jsx_member.proofs.grammar.Brackets.array.Goals as goal

pub returns-in_err-all-clause-refused : goal.returns-in_err-all-clause-refused
returns-in_err-all-clause-refused g c = passed _ c.in_err-all.ensures.refused c.from_residual.ensures.1 (λ n. no_array_cover n)

pub returns-clause-read : goal.returns-clause-read
returns-clause-read g c = array_cover c.in_ok-all.ensures.read c.in_ok-expr.ensures.view refl refl

pub returns-clause-placed : goal.returns-clause-placed
returns-clause-placed g c = array_placed c.in_ok-all.ensures.placed c.in_ok-expr.ensures.view c.in_ok-expr.ensures.told refl refl (λ w begins. spans_from c.span_to.ensures refl (c.last_place-lo.ensures ∙ begins) refl)
