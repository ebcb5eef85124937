use Rattle.std.proofs.Common.{codes, sym, ◌∙◌, ap}
use Rattle.std.specs.Prelude.{◌||◌}
use Rattle.std.specs.Str.{bytes_eq}
use Rattle.jsx_token.proofs.Words.{is_prototype_string}
use Rattle.jsx_token.proofs.identifiers.is_prototype_string.Goals as goal

pub returns-then-eq : goal.returns-then-eq
returns-then-eq c = c.if-eq.true ∙ (sym (ap (λ b. b || bytes_eq c.args.raw.now (codes "'prototype'")) (sym c.eq.ensures ∙ c.if-eq.true)) ∙ is_prototype_string c.args.raw.now c.utf8.raw)

pub returns-else-eq : goal.returns-else-eq
returns-else-eq c = c.eq-else-eq.ensures ∙ (sym (ap (λ b. b || bytes_eq c.args.raw.now (codes "'prototype'")) (sym c.eq.ensures ∙ c.if-eq.false)) ∙ is_prototype_string c.args.raw.now c.utf8.raw)
