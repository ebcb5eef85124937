use Rattle.std.proofs.Common.{true, refl, sym, ◌∙◌, ap, subst}
use Rattle.std.specs.Prelude.{◌&&◌}
use Rattle.std.specs.Str.{chars}
use Rattle.jsx_tree.specs.Kinds.{Binds}
use Rattle.jsx_tree.specs.Nonterminals.{BindingIdent}
use Rattle.jsx_tree.specs.Grammar.{Part}
use Rattle.jsx_tree.specs.Walk.{one}
use Rattle.jsx_tree.specs.Answers.{Only}
use Rattle.jsx_operand.specs.SoFar.{so_far}
use Rattle.jsx_operand.specs.Around.{around_of}
use Rattle.jsx_token.specs.Here.{place_of}
use Rattle.jsx_operand.proofs.Homes.{bindings, deep_leaf, only_leaf, no_leaf, unfit_leaf}
use Rattle.jsx_operand.proofs.Places.{spans_from}
use Rattle.jsx_operand.proofs.Placing.{placed_as}
use Rattle.jsx_operand.proofs.PlacedExpressions.{named_placed}
use Rattle.jsx_operand.proofs.Steps.{passed}
use Rattle.jsx_operand.proofs.parser.binding_identifier.Goals as goal

pub returns-in_default-clause-refused : goal.returns-in_default-clause-refused
returns-in_default-clause-refused c = record { bars = λ at e _. no_leaf bindings c.in_default.ensures.missing }

pub returns-then-not-is_bound-clause-refused : goal.returns-then-not-is_bound-clause-refused
returns-then-not-is_bound-clause-refused c = record { bars = λ at e _. unfit_leaf (chars c.in-Some.raw.now) bindings c.in-Some.ensures.taken refl (ap (λ b. b && true) (sym c.is_bound.ensures ∙ c.if-not-is_bound.true)) }

pub returns-in_err-counted-clause-refused : goal.returns-in_err-counted-clause-refused
returns-in_err-counted-clause-refused c = passed _ c.in_err-counted.ensures.refused c.from_residual.ensures.1 (λ b. deep_leaf bindings b)

pub returns-clause-read : goal.returns-clause-read
returns-clause-read c = subst (λ t. Only so_far (around_of c.args.context.around) (Part BindingIdent) (place_of c.args.lexer.now) (one t) (place_of c.leaf.new.self)) (sym (c.in_ok-bound_name.ensures.view Binds))
    (only_leaf bindings (sym c.is_bound.ensures ∙ c.if-not-is_bound.false) refl c.in-Some.ensures.whole c.in-Some.ensures.taken refl)

pub returns-clause-placed : goal.returns-clause-placed
returns-clause-placed c = placed_as c.in_ok-bound_name.ensures.told (c.in_ok-bound_name.ensures.view Binds)
    (named_placed c.in-Some.ensures.takes (c.last_place-lo.ensures ∙ c.in-Some.ensures.begins) (spans_from c.span_to.ensures refl (c.last_place-lo.ensures ∙ c.in-Some.ensures.begins) refl))
