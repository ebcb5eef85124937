use Rattle.std.proofs.Common.{not, [], ◌∷◌, ◌++◌, sym, ◌∙◌, ap}
use Rattle.jsx_tree.specs.View.{view_pat}
use Rattle.jsx_operand.specs.Patterns.{is_compound}
use Rattle.jsx_operand.proofs.Steps.{passed, passed_plain}
use Rattle.jsx_tree.proofs.Rows.Bridge.{found_at}
use Rattle.jsx_expression.proofs.ArrowOpenings.{arrow_settles, one_simple, one_turns, one_unturned, turned_opened, turned_unread, unturned}
use Rattle.jsx_expression.proofs.CoverParams.{close_stuck}
use Rattle.jsx_expression.proofs.Parentheses.{one_contents}
use Rattle.jsx_expression.proofs.PlacedArrows.{one_param_front}
use Rattle.jsx_expression.proofs.grammar.Expressions.arrow_of_one.Goals as goal

pub returns-in_err-parameter-clause-refused : goal.returns-in_err-parameter-clause-refused
returns-in_err-parameter-clause-refused g c = passed_plain _ c.in_err-parameter.ensures.refused c.from_residual.ensures.1
    (λ f. record { no = λ w z i m k. unturned (one_contents i (close_stuck {y = z} (found_at (sym m.is) m.found))) m k (λ ps t. one_unturned f t) })

pub arrow-requires-clause-simple : goal.arrow-requires-clause-simple
arrow-requires-clause-simple g c = one_simple (c.in_ok-push.ensures.items ∙ ap (λ xs. xs ++ c.in_ok-parameter.parameter ∷ []) c.in_ok-all.ensures.items) c.in_ok-parameter.ensures.read (ap not (c.is_compound-are_simple.ensures ∙ ap (λ p. is_compound (view_pat p)) c.deref.ensures))

pub returns-in_err-arrow-clause-refused : goal.returns-in_err-arrow-clause-refused
returns-in_err-arrow-clause-refused g c = passed _ c.in_err-arrow.ensures.refused c.from_residual-in_err-arrow.ensures.1
    (λ n. record { no = λ w z i m k. turned_unread (one_contents i (close_stuck {y = z} (found_at (sym m.is) m.found))) m k (one_turns (c.in_ok-push.ensures.items ∙ ap (λ xs. xs ++ c.in_ok-parameter.parameter ∷ []) c.in_ok-all.ensures.items) c.in_ok-parameter.ensures.read) n })

pub returns-clause-read : goal.returns-clause-read
returns-clause-read g c = record {
  on = λ w z i m k. turned_opened (one_contents i (close_stuck {y = z} (found_at (sym m.is) m.found))) m k (one_turns (c.in_ok-push.ensures.items ∙ ap (λ xs. xs ++ c.in_ok-parameter.parameter ∷ []) c.in_ok-all.ensures.items) c.in_ok-parameter.ensures.read) c.in_ok-arrow.ensures.read;
}

pub returns-clause-placed : goal.returns-clause-placed
returns-clause-placed g c = record {
  on = λ w a z sign begins l close. c.in_ok-arrow.ensures.placed.on w a sign begins (one_param_front (c.in_ok-push.ensures.items ∙ ap (λ xs. xs ++ c.in_ok-parameter.parameter ∷ []) c.in_ok-all.ensures.items) c.in_ok-parameter.ensures.told l c.in_ok-parameter.ensures.read close);
}

pub returns-clause-settles : goal.returns-clause-settles
returns-clause-settles g c = arrow_settles c.in_ok-arrow.ensures.read
