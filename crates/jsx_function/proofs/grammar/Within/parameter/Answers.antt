use Rattle.std.proofs.Common.{true, false, not, refl, sym, ◌∙◌, ap}
use Rattle.jsx_tree.specs.StaticRules.{is_word}
use Rattle.jsx_tree.specs.View.{view_pat}
use Rattle.jsx_token.specs.Here.{place_of}
use Rattle.jsx_operand.specs.Patterns.{is_compound}
use Rattle.jsx_operand.proofs.Steps.{passed}
use Rattle.jsx_operand.proofs.Placing.{placed_from}
use Rattle.jsx_function.proofs.Params.{element_param, element_word, no_element, no_rest_param, rest_param}
use Rattle.jsx_function.proofs.grammar.Within.parameter.Goals as goal

pub returns-in_err-pattern-clause-refused : goal.returns-in_err-pattern-clause-refused
returns-in_err-pattern-clause-refused g c = passed _ c.in_err-pattern.ensures.refused c.from_residual.ensures.1 (λ n. no_rest_param (record { is = c.take.ensures.taken c.if-take.true; found = refl }) n)

pub returns-then-take-clause-read : goal.returns-then-take-clause-read
returns-then-take-clause-read g c = rest_param (record { is = c.take.ensures.taken c.if-take.true; found = refl }) c.in_ok-pattern.ensures.read

pub returns-then-take-clause-simple : goal.returns-then-take-clause-simple
returns-then-take-clause-simple g c = sym (ap is_word c.in_ok-pattern.ensures.read.is)

pub returns-then-take-clause-placed : goal.returns-then-take-clause-placed
returns-then-take-clause-placed g c = c.in_ok-pattern.ensures.placed.on _ (c.take.ensures.takes c.if-take.true) (c.take.ensures.begins c.if-take.true)

pub returns-in_err-pattern-2-clause-refused : goal.returns-in_err-pattern-2-clause-refused
returns-in_err-pattern-2-clause-refused g c = passed _ c.in_err-pattern-2.ensures.refused c.from_residual-in_err-pattern-2.ensures.1
    (λ n. no_element (record { same = sym (ap place_of (c.take.ensures.stays c.if-take.false)); stuck = record { is = c.take.ensures.missing c.if-take.false } }) n)

pub returns-clause-read : goal.returns-clause-read
returns-clause-read g c = element_param (record { same = sym (ap place_of (c.take.ensures.stays c.if-take.false)); stuck = record { is = c.take.ensures.missing c.if-take.false } }) c.in_ok-pattern-2.ensures.read

pub returns-clause-simple : goal.returns-clause-simple
returns-clause-simple g c = (ap not (c.is_compound-is_simple.ensures ∙ ap (λ p. is_compound (view_pat p)) c.deref.ensures)) ∙ sym (element_word c.in_ok-pattern-2.ensures.read)

pub returns-clause-placed : goal.returns-clause-placed
returns-clause-placed g c = placed_from (c.take.ensures.stays c.if-take.false) c.in_ok-pattern-2.ensures.placed
