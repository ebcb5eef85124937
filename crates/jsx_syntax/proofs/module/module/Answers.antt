use Rattle.std.proofs.Common.{map}
use Rattle.jsx_tree.specs.Told.{told_item}
use Rattle.jsx_tree.specs.ViewProgram.{view_item}
use Rattle.jsx_operand.specs.Around.{around_of}
use Rattle.jsx_operand.proofs.Steps.{passed}
use Rattle.jsx_syntax.proofs.Items.{string_items}
use Rattle.jsx_syntax.proofs.PlacedPrograms.{placed_items}
use Rattle.jsx_syntax.proofs.Programs.{deep_program, no_program, program_only}
use Rattle.jsx_syntax.proofs.module.module.Goals as goal

pub returns-in_err-directives-clause-refused : goal.returns-in_err-directives-clause-refused
returns-in_err-directives-clause-refused c = passed _ c.in_err-directives.ensures.refused c.from_residual.ensures.1 (λ p. deep_program {V = λ ds. around_of c.args.context.around} string_items p)

pub returns-in_err-body-clause-refused : goal.returns-in_err-body-clause-refused
returns-in_err-body-clause-refused c = passed _ c.in_err-body.ensures.refused c.from_residual-in_err-body.ensures.1 (λ n. no_program {V = λ ds. around_of c.args.context.around} string_items c.in_ok-directives.ensures.read n)

pub returns-clause-read : goal.returns-clause-read
returns-clause-read c = program_only {V = λ ds. around_of c.args.context.around} string_items c.in_ok-directives.ensures.read c.in_ok-body.ensures.read

pub returns-clause-placed : goal.returns-clause-placed
returns-clause-placed c = placed_items c.in_ok-directives.directives.items (map told_item c.in_ok-body.body.items) (map view_item c.in_ok-body.body.items) c.in_ok-directives.ensures.top_lines c.in_ok-body.ensures.placed
