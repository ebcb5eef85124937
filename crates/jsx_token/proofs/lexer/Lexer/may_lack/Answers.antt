use Rattle.std.proofs.Common.{sym, ap, ◌∙◌}
use Rattle.std.specs.Str.{chars}
use Rattle.std.proofs.lemmas.Str.{chars-nil}
use Rattle.jsx_base.specs.Token.{breaks}
use Rattle.jsx_token.specs.Here.{ending_of}
use Rattle.jsx_token.specs.Semicolons.{lacks}
use Rattle.jsx_token.proofs.Semicolons.{none_lacks, end_lacks, token_lacks}
use Rattle.jsx_token.proofs.lexer.Lexer.may_lack.Goals.{in-End, in_default-kind}
use Rattle.jsx_token.proofs.lexer.Lexer.may_lack.Goals as goal

pub returns-in_default-clause-lacks : goal.returns-in_default-clause-lacks
returns-in_default-clause-lacks c =
    let same = sym (c.self.view_is ∙ c.in_default.ensures.stays) in
    none_lacks c.self.inside.ending c.breaks.result c.lacks.result (ap (λ h. h.ending) same) (ap (λ h. h.last) same) c.in_default.ensures.found c.requires
    (c.breaks.ensures ∙ (ap (λ w. breaks (chars w)) c.rest.ensures ∙ ap (λ h. breaks h.rest) (sym same)))
    (c.lacks.ensures ∙ ap (λ t. lacks (ending_of c.self.inside.ending) (chars c.self.inside.last.now) t c.breaks.result) chars-nil)

pub returns-clause-lacks : goal.returns-clause-lacks
returns-clause-lacks c =
    let same = sym (c.self.view_is ∙ c.in-Some.ensures.stays) in
    let ending = ap (λ h. h.ending) same in
    let last = ap (λ h. h.last) same in
    elim c.match-seen.branch [
      | in-End w ↦ end_lacks c.self.inside.ending c.match-seen.result ending c.in-Some.ensures.found w.in-End.is c.requires w.result-is
      | in_default-kind w ↦ token_lacks c.self.inside.ending c.match-seen.result ending last c.in-Some.ensures.found w.in_default-kind.not-End c.requires (w.result-is ∙ w.lacks-in_default-kind.ensures)
    ]
