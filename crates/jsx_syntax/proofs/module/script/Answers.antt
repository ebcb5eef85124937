use Rattle.std.proofs.Common.{map, ◌∙◌, ap}
use Rattle.jsx_tree.specs.Told.{told_stmt}
use Rattle.jsx_tree.specs.View.{directive, forest, inside, view_stmt}
use Rattle.jsx_operand.specs.Around.{around_of, in_code}
use Rattle.jsx_operand.proofs.Steps.{passed}
use Rattle.jsx_function.proofs.Inside.{passed_as}
use Rattle.jsx_statement.proofs.Directives.{string_statements}
use Rattle.jsx_syntax.proofs.PlacedPrograms.{placed_statements}
use Rattle.jsx_syntax.proofs.Programs.{deep_program, no_program, none_in, only_in, program_only}
use Rattle.jsx_syntax.proofs.module.script.Goals as goal

pub returns-in_err-directives-clause-refused : goal.returns-in_err-directives-clause-refused
returns-in_err-directives-clause-refused c = passed _ c.in_err-directives.ensures.refused c.from_residual.ensures.1 (λ p. deep_program {V = λ ds. in_code ds (around_of c.args.context.around)} string_statements p)

pub returns-in_err-body-clause-refused : goal.returns-in_err-body-clause-refused
returns-in_err-body-clause-refused c = passed_as _ c.of_code.ensures.levels c.in_err-body.ensures.refused c.from_residual-in_err-body.ensures.1
    (λ n. no_program {V = λ ds. in_code ds (around_of c.args.context.around)} string_statements c.in_ok-directives.ensures.read (none_in (c.of_code.ensures.around ∙ ap (λ ds. in_code (forest (map directive ds)) (around_of c.args.context.around)) c.deref.ensures.value) n))

pub returns-clause-read : goal.returns-clause-read
returns-clause-read c = program_only {V = λ ds. in_code ds (around_of c.args.context.around)} string_statements c.in_ok-directives.ensures.read (only_in (c.of_code.ensures.around ∙ ap (λ ds. in_code (forest (map directive ds)) (around_of c.args.context.around)) c.deref.ensures.value) c.in_ok-body.ensures.read)

pub returns-clause-placed : goal.returns-clause-placed
returns-clause-placed c = placed_statements c.in_ok-directives.directives.items (map (inside told_stmt) c.in_ok-body.body.items) (map (inside view_stmt) c.in_ok-body.body.items) c.in_ok-directives.ensures.top_lines c.in_ok-body.ensures.placed
