use Rattle.std.proofs.Common.{refl, sym}
use Rattle.jsx_token.proofs.lexer.Lexer.is_at_end.Goals as goal

pub returns-in-None-clause-ends : goal.returns-in-None-clause-ends
returns-in-None-clause-ends c = sym (c.in-None.ensures.found.more refl)
