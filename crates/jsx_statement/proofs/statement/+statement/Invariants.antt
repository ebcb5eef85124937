use Rattle.std.proofs.Common.{◌+◌, ◌*◌}
use Rattle.jsx_token.specs.Here.{left}
use Rattle.jsx_statement.proofs.statement.+statement.Given as goal

-- a body calls a statement where it stands, and a statement a body behind a token at least
abbrev pub decreases-statement : goal.decreases-statement
decreases-statement l = 2 * left l.lexer.now

abbrev pub decreases-body : goal.decreases-body
decreases-body l = 2 * left l.lexer.now + 1
