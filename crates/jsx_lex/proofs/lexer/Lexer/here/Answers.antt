use Rattle.std.proofs.Common.{sym, ◌∙◌}
use Rattle.jsx_lex.specs.Kinds.{mode_of}
use Rattle.jsx_lex.proofs.Endings.{ends_within}
use Rattle.jsx_lex.proofs.Stands.{nothing_is}
use Rattle.jsx_lex.proofs.lexer.Lexer.here.Goals as goal

pub returns-in_default-clause-here : goal.returns-in_default-clause-here
returns-in_default-clause-here c = let h = c.if-not-skips in nothing_is (mode_of c.args.mode) c.args.self.now (sym c.skips.ensures ∙ c.if-not-skips.false) c.in_default.ensures.cut

pub returns-clause-ends : goal.returns-clause-ends
returns-clause-ends c = ends_within _ _ _ c.args.self.now.within c.in-Some.ensures.ends
