use Rattle.std.proofs.Common.{rules}
use Rattle.jsx_token.proofs.Taking.{mark_is}
use Rattle.jsx_token.proofs.lexer.Fixed.is.Goals as goal

pub returns : goal.returns
returns c = mark_is c.eq-2.result c.args.token.now c.in-Some.mark c.args.self (search rules) c.in-Some.ensures c.requires
