use Rattle.jsx_lex.proofs.PlainRuns.{jsx_string_is, jsx_string_open}
use Rattle.jsx_lex.proofs.plain.jsx_string.Goals as goal

pub returns-in_default-clause-token : goal.returns-in_default-clause-token
returns-in_default-clause-token c = jsx_string_open c.args.quote _ _ c.past-body.ensures.keeps c.past-body.ensures.stops c.in_default.ensures

pub returns-clause-token : goal.returns-clause-token
returns-clause-token c = jsx_string_is c.args.quote _ _ _ c.past-body.ensures.keeps c.in-Some.ensures.chars_are
