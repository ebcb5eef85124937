use Rattle.std.proofs.Common.{sym, ◌∙◌}
use Rattle.jsx_lex.proofs.FrontLaws.{tag_is}
use Rattle.jsx_lex.proofs.front.tag.Goals as goal

pub returns-clause-token : goal.returns-clause-token
returns-clause-token c = tag_is c.args.is_fresh c.args.c _ _ (sym c.is_start.ensures ∙ c.if-is_start.false) c.if-c-eq34.false c.if-c-eq39.false c.in-Some.ensures
