use Rattle.std.proofs.Common.{not, map, refl, ◌∙◌, ap}
use Rattle.jsx_tree.specs.View.{forest, inside}
use Rattle.jsx_make.specs.Members.{view_prop}
use Rattle.jsx_tree.specs.StaticRules.{at_most, is_proto}
use Rattle.jsx_tree.proofs.Tokens.{and_left}
use Rattle.jsx_operand.proofs.Places.{spans_from}
use Rattle.jsx_operand.proofs.Steps.{passed}
use Rattle.jsx_member.proofs.LiteralCovers.{no_object_cover, object_cover, object_placed, unless_two}
use Rattle.jsx_member.proofs.grammar.Brackets.object.Goals as goal

pub returns-in_err-all-clause-refused : goal.returns-in_err-all-clause-refused
returns-in_err-all-clause-refused g c = passed _ c.in_err-all.ensures.refused c.from_residual.ensures.1 (λ n. no_object_cover n)

pub returns-clause-read : goal.returns-clause-read
returns-clause-read g c = object_cover c.in_ok-all.ensures.read c.in_ok-expr.ensures.view
    (unless_two _ _ (c.has_two_protos.ensures ∙ ap (λ xs. not (at_most 1 is_proto (forest (map (inside view_prop) xs)))) c.deref.ensures.value)) refl

pub returns-clause-placed : goal.returns-clause-placed
returns-clause-placed g c = object_placed c.in_ok-all.ensures.placed c.in_ok-expr.ensures.view c.in_ok-expr.ensures.told (λ f. and_left _ _ f) refl (λ w begins. spans_from c.span_to.ensures refl (c.last_place-lo.ensures ∙ begins) refl)
