use Rattle.std.proofs.Common.{refl}
use Rattle.jsx_statement.proofs.Tries.{block_barred, block_deep, block_only, no_body, taken_on}
use Rattle.jsx_operand.proofs.Steps.{passed, passed_in}
use Rattle.jsx_statement.proofs.grammar.Statements.block_only.Goals as goal

pub returns-in_err-expect-clause-refused : goal.returns-in_err-expect-clause-refused
returns-in_err-expect-clause-refused g c = passed _ c.in_err-expect.ensures.refused c.from_residual.ensures.1 (λ b. no_body b)

pub returns-in_err-levels-clause-refused : goal.returns-in_err-levels-clause-refused
returns-in_err-levels-clause-refused g c = passed _ c.in_err-levels.ensures.refused c.from_residual-in_err-levels.ensures.1 (λ b. block_deep b)

pub returns-in_err-block-clause-refused : goal.returns-in_err-block-clause-refused
returns-in_err-block-clause-refused g c = passed_in _ c.in_ok-levels.ensures.levels c.in_err-block.ensures.refused c.from_residual-in_err-block.ensures.1 (λ n. block_barred (taken_on refl c.in_ok-expect.ensures.takes) n)

pub returns-clause-read : goal.returns-clause-read
returns-clause-read g c = block_only (taken_on refl c.in_ok-expect.ensures.takes) c.in_ok-block.ensures.read

pub returns-clause-placed : goal.returns-clause-placed
returns-clause-placed g c = c.in_ok-block.ensures.placed.on c.args.lexer.now c.in_ok-expect.ensures.takes c.in_ok-expect.ensures.begins
