use Rattle.std.proofs.Common.{[], refl, sym, subst}
use Rattle.jsx_tree.specs.Walk.{one}
use Rattle.jsx_tree.specs.Kinds.{list, none}
use Rattle.jsx_tree.specs.Told.{told_list}
use Rattle.jsx_tree.specs.Answers.{Only}
use Rattle.jsx_operand.specs.Around.{around_of}
use Rattle.jsx_statement.specs.Tries.{finally_symbol, finally_symbols}
use Rattle.jsx_token.specs.Here.{place_of}
use Rattle.jsx_operand.specs.SoFar.{so_far}
use Rattle.jsx_operand.specs.Spans.{IsPlacedFront}
use Rattle.jsx_statement.proofs.PartWords.{absent_word, barred_word, of_finally, present_word}
use Rattle.jsx_operand.proofs.Steps.{passed}
use Rattle.jsx_statement.proofs.PlacedNodes.{led_placed, unled_placed}
use Rattle.jsx_statement.proofs.grammar.Statements.finally_part.Goals as goal

pub returns-then-not-take-clause-read : goal.returns-then-not-take-clause-read
returns-then-not-take-clause-read g c = subst (λ h. Only so_far (around_of c.args.context.around) finally_symbol (place_of c.args.lexer.now) (one (list none)) (place_of h)) (sym (c.take.ensures.stays c.if-not-take.true)) (absent_word of_finally (c.take.ensures.missing c.if-not-take.true) refl)

pub returns-then-not-take-clause-placed : goal.returns-then-not-take-clause-placed
returns-then-not-take-clause-placed g c = subst (λ h. IsPlacedFront finally_symbols (told_list []) (list none) c.args.lexer.now h) (sym (c.take.ensures.stays c.if-not-take.true)) unled_placed

pub returns-in_err-block-clause-refused : goal.returns-in_err-block-clause-refused
returns-in_err-block-clause-refused g c = passed _ c.in_err-block.ensures.refused c.from_residual.ensures.1 (λ b. barred_word of_finally (record { is = c.take.ensures.taken c.if-not-take.false; found = refl }) b)

pub returns-clause-read : goal.returns-clause-read
returns-clause-read g c = present_word of_finally (record { is = c.take.ensures.taken c.if-not-take.false; found = refl }) c.in_ok-block.ensures.read

pub returns-clause-placed : goal.returns-clause-placed
returns-clause-placed g c = led_placed (c.take.ensures.takes c.if-not-take.false) c.in_ok-block.ensures.placed
