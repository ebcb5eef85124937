use Rattle.std.proofs.Common.{◌∷◌, [], codes, refl, ap}
use Rattle.jsx_lex.specs.declared.token.TokenKind.TheVariants as token
use Rattle.jsx_lex.proofs.MarkLaws.{mark_is, moved}
use Rattle.jsx_lex.proofs.marks.or.Goals as goal

pub returns-in-Some-clause-mark : goal.returns-in-Some-clause-mark
returns-in-Some-clause-mark c = moved 124 _ _ _ _ c.in-Some.ensures.chars_are c.with_equal.ensures.mark

pub returns-in-Some-after-clause-mark : goal.returns-in-Some-after-clause-mark
returns-in-Some-after-clause-mark c = mark_is token.OrEqual [] _ _ refl (ap (λ x. 124 ∷ x) c.in-Some-after.ensures.chars_are) tt

pub returns-clause-mark : goal.returns-clause-mark
returns-clause-mark c = mark_is token.Or (codes "|=") _ _ refl refl (c.in_default.ensures, (c.in_default-after.ensures, tt))
