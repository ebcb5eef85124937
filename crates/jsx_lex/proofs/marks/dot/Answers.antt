use Rattle.std.proofs.Common.{◌∷◌, [], refl, ap}
use Rattle.jsx_lex.specs.declared.token.TokenKind.TheVariants as token
use Rattle.jsx_lex.proofs.MarkLaws.{dot_is, mark_is}
use Rattle.jsx_lex.proofs.marks.dot.Goals as goal

pub returns-in-Some-clause-mark : goal.returns-in-Some-clause-mark
returns-in-Some-clause-mark c = mark_is token.Ellipsis [] _ _ refl (ap (λ x. 46 ∷ x) c.in-Some.ensures.dots) tt

pub returns-in-None-clause-mark : goal.returns-in-None-clause-mark
returns-in-None-clause-mark c = dot_is _ c.in-None.ensures.dots
