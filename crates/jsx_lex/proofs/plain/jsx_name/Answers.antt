use Rattle.jsx_lex.proofs.PlainRuns.{jsx_name_is}
use Rattle.jsx_lex.proofs.plain.jsx_name.Goals as goal

pub returns-clause-token : goal.returns-clause-token
returns-clause-token c = jsx_name_is _ _ c.past.ensures.keeps c.past.ensures.stops
