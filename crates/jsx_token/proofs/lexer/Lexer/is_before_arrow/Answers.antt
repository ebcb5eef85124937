use Rattle.std.proofs.Common.{◌∙◌}
use Rattle.jsx_token.proofs.Ahead.{none_ahead, one_ahead}
use Rattle.jsx_token.proofs.lexer.Lexer.is_before_arrow.Goals as goal

pub returns-in_default-clause-ahead : goal.returns-in_default-clause-ahead
returns-in_default-clause-ahead c = none_ahead c.in_default.ensures.found

pub returns-clause-ahead : goal.returns-clause-ahead
returns-clause-ahead c = c.is_arrow.ensures ∙ one_ahead c.in-Some.ensures.found
