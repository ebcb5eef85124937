use Rattle.std.proofs.Common.{refl, ◌∙◌}
use Rattle.jsx_tree.specs.Grammar.{Spaced, Many}
use Rattle.jsx_tree.specs.Kinds.{list, none}
use Rattle.jsx_tree.specs.Nonterminals.{Attributes}
use Rattle.jsx_tree.specs.Walk.{one, is_found}
use Rattle.jsx_tree.specs.Answers.{Only}
use Rattle.jsx_tree.specs.StaticRules.{Surroundings}
use Rattle.jsx_tree.specs.Reading.{Place}
use Rattle.jsx_operand.specs.SoFar.{so_far}
use Rattle.std.specs.Prelude.{IsTrue}
use Rattle.jsx_tree.proofs.Rows.Steps.{bar, built_5, inner_row, on}
use Rattle.jsx_tree.proofs.Rows.Lists.{only_none}
use Rattle.jsx_operand.proofs.Homes.{no_attributes}
use Rattle.jsx_operand.proofs.Openings.{deep_element}
use Rattle.jsx_operand.proofs.Values.{sign_ended}
use Rattle.jsx_operand.proofs.Steps.{passed}
use Rattle.jsx_operand.proofs.Places.{spans_from}
use Rattle.jsx_operand.proofs.Trees.{element_is}
use Rattle.jsx_operand.proofs.Placing.{placed_as}
use Rattle.jsx_operand.proofs.PlacedExpressions.{element_row, element_told}
use Rattle.jsx_operand.proofs.operand.element.Goals as goal

without : {v : Surroundings} {x : Place} → IsTrue (is_found x) → Only so_far v (Many Spaced Attributes) x (one (list none)) x
without f = only_none refl f no_attributes (λ t y w. w)

pub returns-in_err-expect-clause-refused : goal.returns-in_err-expect-clause-refused
returns-in_err-expect-clause-refused c = passed _ c.in_err-expect.ensures.refused c.from_residual.ensures.1 (λ b. inner_row (bar b))

pub returns-in_err-name-clause-refused : goal.returns-in_err-name-clause-refused
returns-in_err-name-clause-refused c = passed _ c.in_err-name.ensures.refused c.from_residual-in_err-name.ensures.1 (λ b. inner_row (on c.in_ok-expect.ensures.read (bar b)))

pub returns-in_err-within_leaf-clause-refused : goal.returns-in_err-within_leaf-clause-refused
returns-in_err-within_leaf-clause-refused c = passed _ c.in_err-within_leaf.ensures.refused c.from_residual-in_err-within_leaf.ensures.1 (λ b. deep_element _ b)

pub returns-in_err-expect-2-clause-refused : goal.returns-in_err-expect-2-clause-refused
returns-in_err-expect-2-clause-refused c = passed _ c.in_err-expect-2.ensures.refused c.from_residual-in_err-expect-2.ensures.1 (λ b. inner_row (on c.in_ok-expect.ensures.read (on c.in_ok-name.ensures.read (on (without refl) (bar b)))))

pub returns-in_err-expect-3-clause-refused : goal.returns-in_err-expect-3-clause-refused
returns-in_err-expect-3-clause-refused c = passed _ c.in_err-expect-3.ensures.refused c.from_residual-in_err-expect-3.ensures.1 (λ b. inner_row (on c.in_ok-expect.ensures.read (on c.in_ok-name.ensures.read (on (without refl) (on c.in_ok-expect-2.ensures.read (bar b))))))

pub returns-clause-read : goal.returns-clause-read
returns-clause-read c = built_5 refl c.in_ok-expect.ensures.read c.in_ok-name.ensures.read (without refl) c.in_ok-expect-2.ensures.read c.in_ok-expect-3.ensures.read (element_is c.in_ok-name.name c.new.result c.new.ensures.items c.in_ok-element.ensures.view)

pub returns-clause-placed : goal.returns-clause-placed
returns-clause-placed c =
    placed_as (element_told c.span_to-span.result c.in_ok-name.name c.new.result c.new.ensures.items c.in_ok-element.ensures.told) (element_is c.in_ok-name.name c.new.result c.new.ensures.items c.in_ok-element.ensures.view)
    (element_row c.in_ok-expect.ensures.takes c.in_ok-name.ensures.takes c.in_ok-name.ensures.place c.in_ok-expect-2.ensures.takes c.in_ok-expect-3.ensures.takes
    (spans_from c.span_to-span.ensures refl (c.last_place-lo.ensures ∙ c.in_ok-expect.ensures.begins) refl))

pub returns-clause-ended : goal.returns-clause-ended
returns-clause-ended c = sign_ended c.in_ok-expect-3.ensures.read.past
