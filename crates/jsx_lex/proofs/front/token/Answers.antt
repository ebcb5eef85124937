use Rattle.std.proofs.Common.{sym, ◌∙◌}
use Rattle.jsx_lex.specs.Kinds.{mode_of}
use Rattle.jsx_lex.proofs.Raws.{next_is, end_is}
use Rattle.jsx_lex.proofs.front.token.Goals as goal

pub returns-then-is_empty-clause-token : goal.returns-then-is_empty-clause-token
returns-then-is_empty-clause-token c = end_is (mode_of c.args.mode) c.args.is_fresh _ (sym c.is_empty.ensures ∙ c.if-is_empty.true)

pub returns-in_default-clause-token : goal.returns-in_default-clause-token
returns-in_default-clause-token c = record { none = c.in_default.ensures.token; more = sym c.is_empty.ensures ∙ c.if-is_empty.false }

pub returns-clause-token : goal.returns-clause-token
returns-clause-token c = next_is (mode_of c.args.mode) c.args.is_fresh _ _ _ (sym c.is_empty.ensures ∙ c.if-is_empty.false) c.in-Some.ensures.token
