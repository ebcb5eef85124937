use Rattle.std.proofs.Common.{not, sym, ◌∙◌, ap}
use Rattle.jsx_tree.specs.View.{view_pat}
use Rattle.jsx_operand.specs.Patterns.{is_compound}
use Rattle.jsx_operand.proofs.Steps.{passed}
use Rattle.jsx_function.proofs.Accessors.{no_setter_element, setter_element}
use Rattle.jsx_function.proofs.Params.{element_word}
use Rattle.jsx_function.proofs.grammar.Within.setter_parameter.Goals as goal

pub returns-in_err-pattern-clause-refused : goal.returns-in_err-pattern-clause-refused
returns-in_err-pattern-clause-refused g c = passed _ c.in_err-pattern.ensures.refused c.from_residual.ensures.1 (λ n. no_setter_element n)

pub returns-clause-read : goal.returns-clause-read
returns-clause-read g c = setter_element c.in_ok-pattern.ensures.read

pub returns-clause-simple : goal.returns-clause-simple
returns-clause-simple g c = (ap not (c.is_compound-is_simple.ensures ∙ ap (λ p. is_compound (view_pat p)) c.deref.ensures)) ∙ sym (element_word c.in_ok-pattern.ensures.read)
