use Rattle.jsx_lex.proofs.PlainRuns.{name_is}
use Rattle.jsx_lex.proofs.plain.name.Goals as goal

pub returns-clause-token : goal.returns-clause-token
returns-clause-token c = name_is _ _ c.past.ensures.keeps c.past.ensures.stops
