use Rattle.std.proofs.Common.{codes, refl}
use Rattle.jsx_lex.specs.declared.token.TokenKind.TheVariants as token
use Rattle.jsx_lex.proofs.MarkLaws.{mark_is, moved}
use Rattle.jsx_lex.proofs.marks.not.Goals as goal

pub returns-in-Some-clause-mark : goal.returns-in-Some-clause-mark
returns-in-Some-clause-mark c = moved 33 _ _ _ _ c.in-Some.ensures.chars_are c.with_equal.ensures.mark

pub returns-clause-mark : goal.returns-clause-mark
returns-clause-mark c = mark_is token.Not (codes "=") _ _ refl refl (c.in_default.ensures, tt)
