use Rattle.std.proofs.Common.{map, ◌∙◌, ap}
use Rattle.jsx_tree.specs.Told.{told_stmt}
use Rattle.jsx_tree.specs.View.{directive, forest, inside, view_stmt}
use Rattle.jsx_operand.specs.Around.{around_of, in_code}
use Rattle.jsx_operand.proofs.Steps.{passed}
use Rattle.jsx_function.proofs.Inside.{passed_as}
use Rattle.jsx_statement.proofs.Directives.{body_in, body_only, deep_body, no_body, no_body_in}
use Rattle.jsx_statement.proofs.PlacedRuns.{placed_body}
use Rattle.jsx_statement.proofs.grammar.Statements.function_body.Goals as goal

pub returns-in_err-directives-clause-refused : goal.returns-in_err-directives-clause-refused
returns-in_err-directives-clause-refused g c = passed _ c.in_err-directives.ensures.refused c.from_residual.ensures.1 (λ p. deep_body p)

pub returns-in_err-statements-clause-refused : goal.returns-in_err-statements-clause-refused
returns-in_err-statements-clause-refused g c = passed_as _ c.of_code.ensures.levels c.in_err-statements.ensures.refused c.from_residual-in_err-statements.ensures.1 (λ n. no_body c.in_ok-directives.ensures.read (no_body_in (c.of_code.ensures.around ∙ ap (λ ds. in_code (forest (map directive ds)) (around_of c.args.context.around)) c.deref.ensures.value) n))

pub returns-clause-read : goal.returns-clause-read
returns-clause-read g c = body_only c.in_ok-directives.ensures.read (body_in (c.of_code.ensures.around ∙ ap (λ ds. in_code (forest (map directive ds)) (around_of c.args.context.around)) c.deref.ensures.value) c.in_ok-statements.ensures.read)

pub returns-clause-placed : goal.returns-clause-placed
returns-clause-placed g c = placed_body c.in_ok-directives.directives.items (map (inside told_stmt) c.in_ok-statements.statements.items) (map (inside view_stmt) c.in_ok-statements.statements.items) c.in_ok-directives.ensures.lines c.in_ok-statements.ensures.placed
