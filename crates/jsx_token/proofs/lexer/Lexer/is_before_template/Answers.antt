use Rattle.std.proofs.Common.{sym, ap, ◌∙◌}
use Rattle.std.specs.Prelude.{◌||◌}
use Rattle.jsx_base.specs.Token.{NoSubstitution, TemplateHead, is_kind}
use Rattle.jsx_token.proofs.lexer.Lexer.is_before_template.Goals as goal

pub returns-in_default-clause-ahead : goal.returns-in_default-clause-ahead
returns-in_default-clause-ahead c = sym (ap (λ k. is_kind k NoSubstitution || is_kind k TemplateHead) c.in_default.ensures.found.none)

pub returns-clause-ahead : goal.returns-clause-ahead
returns-clause-ahead c = c.begins_template.ensures ∙ ap (λ k. is_kind k NoSubstitution || is_kind k TemplateHead) c.in-Some.ensures.found.kind
