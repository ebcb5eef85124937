use Rattle.std.proofs.Common.{◌≡◌, ◌||◌, ◌∙◌}
use Rattle.std.specs.Str.{chars}
use Rattle.jsx_base.specs.Token.{breaks}
use Rattle.jsx_lex.proofs.Stands.{same_token, or_then, or_else}
use Rattle.jsx_lex.proofs.lexer.Lexer.settle.Goals as goal
use Rattle.jsx_lex.proofs.lexer.Lexer.settle.Goals.{then-self, else-self}

pub returns-clause-same_token : goal.returns-clause-same_token
returns-clause-same_token c = λ m h.
    let l = c.args.self.now in
    let flag : c.if-self.self ≡ (l.is_on_new_line || breaks (chars l.rest.now)) = elim c.if-self.branch [
      | then-self w ↦ or_then l.is_on_new_line (breaks (chars l.rest.now)) c.if-self.self w.if-self.true (w.self-is ∙ w.if-self.true)
      | else-self w ↦ or_else l.is_on_new_line (breaks (chars l.rest.now)) c.if-self.self w.if-self.false (w.self-is ∙ c.in-Some.ensures.new_line)
    ] in
    same_token m l.is_first l.is_on_new_line c.if-self.self (chars l.rest.now) (chars c.in-Some.gap.rest.now) h c.in-Some.ensures.rest c.in-Some.ensures.front flag
