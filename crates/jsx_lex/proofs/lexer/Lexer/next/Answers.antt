use Rattle.jsx_lex.specs.Kinds.{mode_of}
use Rattle.jsx_lex.proofs.Endings.{ends_within}
use Rattle.jsx_lex.proofs.Stands.{raw_is, spelled}
use Rattle.jsx_lex.proofs.lexer.Lexer.next.Goals as goal

pub invariant_of-self : goal.invariant_of-self
invariant_of-self c = record { within = ends_within _ _ _ c.in-Some.ensures.ends c.in-Some-token.ensures.ends }

pub returns-clause-raw : goal.returns-clause-raw
returns-clause-raw c = raw_is (mode_of c.args.mode) c.in-Some.here.is_fresh _ c.in-Some-token.found.kind _ _ _ c.in-Some-token.ensures.token c.before-2.ensures.characters c.in-Some.ensures.here.ahead_is

pub returns-clause-spelling : goal.returns-clause-spelling
returns-clause-spelling c = spelled (mode_of c.args.mode) c.in-Some.here.is_fresh _ c.in-Some-token.found.kind _ _ c.in-Some-token.ensures.token c.before-2.ensures.characters
