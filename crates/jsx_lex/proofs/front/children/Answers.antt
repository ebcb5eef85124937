use Rattle.jsx_lex.proofs.FrontLaws.{child_brace, child_less}
use Rattle.jsx_lex.proofs.front.children.Goals as goal

pub returns-in-123-clause-token : goal.returns-in-123-clause-token
returns-in-123-clause-token c = child_brace c.args.is_fresh c.args.c _ c.in-123.is

pub returns-in-60-clause-token : goal.returns-in-60-clause-token
returns-in-60-clause-token c = child_less c.args.is_fresh c.args.c _ c.in-60.is
