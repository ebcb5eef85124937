use Rattle.jsx_lex.proofs.Endings.{ends_within}
use Rattle.jsx_lex.proofs.PlainRuns.{none_on, taken_on}
use Rattle.jsx_lex.proofs.plain.string.Goals as goal

pub returns-in_default-clause-token : goal.returns-in_default-clause-token
returns-in_default-clause-token c = none_on _ _ _ c.past-rest.ensures.keeps c.in_default.ensures.token

pub returns-clause-token : goal.returns-clause-token
returns-clause-token c = taken_on _ _ _ _ _ c.past-rest.ensures.keeps c.in-Some.ensures.token

pub returns-clause-ends : goal.returns-clause-ends
returns-clause-ends c = ends_within _ _ _ c.past-rest.ensures.ends c.in-Some.ensures.ends
