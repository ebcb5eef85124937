use Rattle.std.proofs.Common.{sym, ap, ◌∙◌}
use Rattle.std.proofs.lemmas.Str.{chars-nil}
use Rattle.std.proofs.lemmas.Option.{none-some}
use Rattle.jsx_base.specs.Token.{same}
use Rattle.std.specs.Prelude.{[]}
use Rattle.jsx_token.proofs.lexer.Lexer.new.Goals as goal

pub returns-clause-last : goal.returns-clause-last
returns-clause-last c = chars-nil

pub invariant_of-result : goal.invariant_of-result
invariant_of-result c =
    (c.new.ensures.first ∙ sym (ap (λ t. same t []) chars-nil), (c.new.ensures.unsettled, ((λ x e. absurd (none-some x e)), tt)))
