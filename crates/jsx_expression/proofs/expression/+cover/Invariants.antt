use Rattle.jsx_token.specs.Here.{left}
use Rattle.jsx_expression.proofs.expression.+cover.Given as goal

abbrev pub decreases-cover : goal.decreases-cover
decreases-cover g l = left l.lexer.now
