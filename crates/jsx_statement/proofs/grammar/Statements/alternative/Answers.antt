use Rattle.std.proofs.Common.{[], refl, sym, subst}
use Rattle.jsx_tree.specs.Kinds.{list, none, part}
use Rattle.jsx_tree.specs.Spans.{no_tales, tale}
use Rattle.jsx_tree.specs.Told.{told_list}
use Rattle.jsx_tree.specs.Answers.{OnlyRow}
use Rattle.jsx_tree.proofs.Rows.Bridge.{found_at}
use Rattle.jsx_operand.specs.Around.{around_of}
use Rattle.jsx_statement.specs.Statements.{alternative_row, alternative_symbols}
use Rattle.jsx_token.specs.Here.{place_of}
use Rattle.jsx_operand.specs.SoFar.{so_far}
use Rattle.jsx_operand.specs.Spans.{IsPlacedRow}
use Rattle.jsx_statement.proofs.Elses.{no_else, none_else, some_else}
use Rattle.jsx_operand.proofs.Steps.{passed}
use Rattle.jsx_statement.proofs.PlacedNodes.{else_placed, no_else_placed}
use Rattle.jsx_statement.proofs.grammar.Statements.alternative.Goals as goal

pub returns-then-not-take-clause-read : goal.returns-then-not-take-clause-read
returns-then-not-take-clause-read g c = subst (λ h. OnlyRow so_far (around_of c.args.context.around) alternative_row (place_of c.args.lexer.now) (part (list none) none) (place_of h)) (sym (c.take.ensures.stays c.if-not-take.true)) (no_else (c.take.ensures.missing c.if-not-take.true) refl)

pub returns-then-not-take-clause-placed : goal.returns-then-not-take-clause-placed
returns-then-not-take-clause-placed g c = subst (λ h. IsPlacedRow alternative_symbols (tale (told_list []) no_tales) (part (list none) none) c.args.lexer.now h) (sym (c.take.ensures.stays c.if-not-take.true)) no_else_placed

pub returns-in_err-other-clause-refused : goal.returns-in_err-other-clause-refused
returns-in_err-other-clause-refused g c = passed _ c.in_err-other.ensures.refused c.from_residual.ensures.1 (λ b. none_else (record { is = c.take.ensures.taken c.if-not-take.false; found = refl }) b)

pub returns-clause-read : goal.returns-clause-read
returns-clause-read g c = some_else (record { is = c.take.ensures.taken c.if-not-take.false; found = refl }) c.in_ok-other.ensures.read

pub returns-clause-closed : goal.returns-clause-closed
returns-clause-closed g c = found_at (sym (c.take.ensures.taken c.if-not-take.false)) refl

pub returns-clause-placed : goal.returns-clause-placed
returns-clause-placed g c = else_placed (c.take.ensures.takes c.if-not-take.false) c.in_ok-other.ensures.placed
